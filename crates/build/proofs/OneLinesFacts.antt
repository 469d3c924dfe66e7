-- Lists of lines that ascend are one if they have the same lines.
use Rattle.std.proofs.Common.{◌≡◌, ◌⊎◌, inl, inr, ◌<◌, ℕ, zero, suc, List, [], ◌∷◌, Some, length, refl, sym, ap, ◌∙◌, arith}
use Rattle.std.specs.Prelude.{slice_get, slice_index_or, Contains}
use Rattle.std.proofs.lemmas.Bool.{cases_lt}
use Rattle.std.proofs.lemmas.Option.{slice_get-get_or}
use Rattle.llb.specs.Graph.{GraphValue, IsGraph}
use Rattle.llb.specs.Places.{AscendFrom, AreLines}
use Rattle.lowering.specs.Means.{lines_at}
use Rattle.build.proofs.OnePlanFacts.{same_items}

here_in : (x : ℕ) (xs : List ℕ) → Contains (x ∷ xs) x
here_in x xs = (0, omega arith, refl)

there_in : (x y : ℕ) (xs : List ℕ) → Contains xs x → Contains (y ∷ xs) x
there_in x y xs is = let low = is.1 in (suc is.0, omega (arith, low), is.2)

-- what is in a list is its first or is in the rest
first_or_rest : (x y : ℕ) (xs : List ℕ) → Contains (y ∷ xs) x → (y ≡ x) ⊎ Contains xs x
first_or_rest x y xs is = by is.0 is.1 is.2
  where
    by : (k : ℕ) → k < length (y ∷ xs) → slice_index_or (y ∷ xs) k x ≡ x → (y ≡ x) ⊎ Contains xs x
    by zero low e = inl e
    by (suc k) low e = inr (k, omega (arith, low), e)

above : (low : ℕ) (xs : List ℕ) (line : ℕ) → AscendFrom low xs → Contains xs line → low < line
above low [] line up is = let none = is.1 in absurd (omega (arith, none))
above low (x ∷ xs) line up is = let first = up.0 in elim (first_or_rest line x xs is) [
  | inl here ↦ omega (arith, first, here)
  | inr later ↦ (let rest = above x xs line up.1.1 later in omega (arith, first, rest))
]

-- what is in both lists after their first ones, which are the same
tail_has : (x y : ℕ) (xs ys : List ℕ) (line : ℕ) → x ≡ y → AscendFrom x xs → Contains xs line → Contains (y ∷ ys) line → Contains ys line
tail_has x y xs ys line same up is also = elim (first_or_rest line y ys also) [
  | inl here ↦ (let more = above x xs line up is in absurd (omega (arith, more, here, same)))
  | inr later ↦ later
]

first_not_less : (x y : ℕ) (ys : List ℕ) → AscendFrom y ys → Contains (y ∷ ys) x → x < y → ⊥
first_not_less x y ys up is less = elim (first_or_rest x y ys is) [
  | inl here ↦ omega (arith, here, less)
  | inr later ↦ (let more = above y ys x up later in omega (arith, more, less))
]

none_in : (x : ℕ) → Contains [] x → ⊥
none_in x is = let none = is.1 in omega (arith, none)

pub same_lines : (low high : ℕ) (xs ys : List ℕ) → AscendFrom low xs → AscendFrom high ys → ((line : ℕ) → Contains xs line → Contains ys line) → ((line : ℕ) → Contains ys line → Contains xs line) → xs ≡ ys
same_lines low high [] [] up upper to from = refl
same_lines low high [] (y ∷ ys) up upper to from = absurd (none_in y (from y (here_in y ys)))
same_lines low high (x ∷ xs) [] up upper to from = absurd (none_in x (to x (here_in x xs)))
same_lines low high (x ∷ xs) (y ∷ ys) up upper to from =
    let first : x ≡ y = elim (cases_lt x y) [
      | inl less ↦ absurd (first_not_less x y ys upper.1.1 (to x (here_in x xs)) less)
      | inr not_less ↦ elim (cases_lt y x) [
        | inl more ↦ absurd (first_not_less y x xs up.1.1 (from y (here_in y ys)) more)
        | inr not_more ↦ omega (arith, not_less, not_more)
      ]
    ] in
    let rest : xs ≡ ys = same_lines x y xs ys up.1.1 upper.1.1
    (λ line is. tail_has x y xs ys line first up.1.1 is (to line (there_in line x xs is)))
    (λ line is. tail_has y x ys xs line (sym first) upper.1.1 is (from line (there_in line y ys is))) in
    ap (λ i. i ∷ xs) first ∙ ap (λ is. y ∷ is) rest

-- the lines behind a vertex are lines
lines_are : (graph : GraphValue) (id : ℕ) → IsGraph graph → id < length graph.places → AreLines (lines_at graph id)
lines_are graph id is within = is.places id (lines_at graph id) (slice_get-get_or graph.places id [] within)

-- two graphs of as many vertices with the same lines behind each have the same lines behind all
pub same_places : (one other : GraphValue) → IsGraph one → IsGraph other → length one.vertices ≡ length other.vertices
    → ((id line : ℕ) → id < length one.vertices → Contains (lines_at one id) line → Contains (lines_at other id) line)
    → ((id line : ℕ) → id < length other.vertices → Contains (lines_at other id) line → Contains (lines_at one id) line) → one.places ≡ other.places
same_places one other is was long to from =
    same_items one.places other.places (omega (arith, long, is.beside, was.beside)) each
  where
    each : (id : ℕ) → id < length one.places → slice_get one.places id ≡ slice_get other.places id
    each id low =
        let within : id < length one.vertices = omega (arith, low, is.beside) in
        let inside : id < length other.vertices = omega (arith, within, long) in
        let low_other : id < length other.places = omega (arith, inside, was.beside) in
        slice_get-get_or one.places id [] low
        ∙ ap (λ (ls : List ℕ). Some ls) (same_lines 0 0 (lines_at one id) (lines_at other id) (lines_are one id is low) (lines_are other id was low_other)
        (λ line h. to id line within h) (λ line h. from id line inside h))
        ∙ sym (slice_get-get_or other.places id [] low_other)
