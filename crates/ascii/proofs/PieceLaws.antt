-- Laws of pieces: leading blanks are in no piece, and what a text begins with is its first piece.
use Rattle.std.proofs.Common.{◌≡◌, ◌<◌, ◌≤◌, ◌+◌, ℕ, Bool, true, false, List, [], ◌∷◌, ◌++◌, length, refl, sym, ap, ap₂, ◌∙◌, append_assoc, append-nil, cond, if◌then◌else◌, arith}
use Rattle.std.specs.Prelude.{filter}
use Rattle.std.specs.List.{slice_split, onto_first}
use Rattle.ascii.specs.Blanks.{is_blank, after_blanks}
use Rattle.ascii.specs.Pieces.{is_filled, if_any, pieces, until_blank, from_blank, first_piece, behind_piece}

pieces-after_blanks_by : (c : ℕ) (cs : List ℕ) (b : Bool) → is_blank c ≡ b → pieces (after_blanks cs) ≡ pieces cs
    → pieces (if b then after_blanks cs else c ∷ cs) ≡ pieces (c ∷ cs)
pieces-after_blanks_by c cs true h i = rw h i
pieces-after_blanks_by c cs false h i = refl

-- leading blanks are in no piece
pub pieces-after_blanks : (text : List ℕ) → pieces (after_blanks text) ≡ pieces text
pieces-after_blanks [] = refl
pieces-after_blanks (c ∷ cs) = pieces-after_blanks_by c cs (is_blank c) refl (pieces-after_blanks cs)

pieces-blank : (c : ℕ) (cs : List ℕ) → is_blank c ≡ true → pieces (c ∷ cs) ≡ pieces cs
pieces-blank c cs h = rw h refl

-- what stands between the blanks of a text: first what stands before its first blank, and then what has the pieces from that blank on
record HasFirst (text : List ℕ) : Type 0 where
  rest : List (List ℕ)
  cut : slice_split is_blank text ≡ until_blank text ∷ rest
  others : filter is_filled rest ≡ pieces (from_blank text)

first_of_by : (c : ℕ) (cs : List ℕ) (b : Bool) → is_blank c ≡ b → HasFirst cs → HasFirst (c ∷ cs)
first_of_by c cs true h has = record { rest = slice_split is_blank cs; cut = rw h refl; others = rw h (sym (pieces-blank c cs h)) }
first_of_by c cs false h has = record { rest = has.rest; cut = rw h (ap (onto_first c) has.cut); others = rw h has.others }

first_of : (text : List ℕ) → HasFirst text
first_of [] = record { rest = []; cut = refl; others = refl }
first_of (c ∷ cs) = first_of_by c cs (is_blank c) refl (first_of cs)

-- a text that begins with no blank has its first piece first
pub pieces-begun : (c : ℕ) (cs : List ℕ) → is_blank c ≡ false → pieces (c ∷ cs) ≡ until_blank (c ∷ cs) ∷ pieces (from_blank (c ∷ cs))
pieces-begun c cs h =
    let has = first_of cs in
    rw h (ap (λ parts. filter is_filled (onto_first c parts)) has.cut ∙ ap (λ others. (c ∷ until_blank cs) ∷ others) has.others)

from_blank-length_by : (c : ℕ) (cs : List ℕ) (b : Bool) → is_blank c ≡ b → length (from_blank cs) ≤ length cs
    → length (if b then c ∷ cs else from_blank cs) ≤ length cs + 1
from_blank-length_by c cs true h i = omega arith
from_blank-length_by c cs false h i = omega (arith, i)

from_blank-length : (text : List ℕ) → length (from_blank text) ≤ length text
from_blank-length [] = omega arith
from_blank-length (c ∷ cs) = omega (arith, from_blank-length_by c cs (is_blank c) refl (from_blank-length cs))

after_blanks-length_by : (c : ℕ) (cs : List ℕ) (b : Bool) → is_blank c ≡ b → length (after_blanks cs) ≤ length cs
    → length (if b then after_blanks cs else c ∷ cs) ≤ length cs + 1
after_blanks-length_by c cs true h i = omega (arith, i)
after_blanks-length_by c cs false h i = omega arith

after_blanks-length : (text : List ℕ) → length (after_blanks text) ≤ length text
after_blanks-length [] = omega arith
after_blanks-length (c ∷ cs) = omega (arith, after_blanks-length_by c cs (is_blank c) refl (after_blanks-length cs))

no_blank_by : (c : ℕ) (cs : List ℕ) (b : Bool) → is_blank c ≡ b → (if b then after_blanks cs else c ∷ cs) ≡ c ∷ cs → is_blank c ≡ false
no_blank_by c cs true h e =
    let n : length (after_blanks cs) ≡ length (c ∷ cs) = ap length e in
    absurd (omega (arith, n, after_blanks-length cs))
no_blank_by c cs false h e = h

-- a text without leading blanks begins with its first piece, and what stands behind that is shorter
pub record IsCut (text : List ℕ) : Type 0 where
  pub first : pieces text ≡ first_piece text ∷ pieces (behind_piece text)
  pub less : length (behind_piece text) < length text

cut_by : (c : ℕ) (cs : List ℕ) → is_blank c ≡ false → after_blanks (c ∷ cs) ≡ c ∷ cs → IsCut (c ∷ cs)
cut_by c cs h e =
    let behind : behind_piece (c ∷ cs) ≡ after_blanks (from_blank cs) = ap (λ t. after_blanks (from_blank t)) e ∙ rw h refl in
    let others : pieces (behind_piece (c ∷ cs)) ≡ pieces (from_blank (c ∷ cs)) =
    ap (λ t. pieces (after_blanks (from_blank t))) e ∙ pieces-after_blanks (from_blank (c ∷ cs)) in
    record {
      first = pieces-begun c cs h ∙ ap₂ (λ (t : List ℕ) (ps : List (List ℕ)). t ∷ ps) (sym (ap until_blank e)) (sym others);
      less = let n : length (behind_piece (c ∷ cs)) ≡ length (after_blanks (from_blank cs)) = ap length behind in
          omega (arith, n, after_blanks-length (from_blank cs), from_blank-length cs);
    }

pub cut : (text : List ℕ) → after_blanks text ≡ text → 0 < length text → IsCut text
cut [] e h = absurd (omega (arith, h))
cut (c ∷ cs) e h = cut_by c cs (no_blank_by c cs (is_blank c) refl e) e

-- the first piece of what is left, found too
pub found_more : (found more : List (List ℕ)) (text rest piece behind : List ℕ) → IsCut rest → found ++ pieces rest ≡ pieces text
    → piece ≡ first_piece rest → behind ≡ behind_piece rest → more ≡ found ++ piece ∷ [] → more ++ pieces behind ≡ pieces text
found_more found more text rest piece behind is f p b m =
    rw (m, p, b) (append_assoc found (first_piece rest ∷ []) (pieces (behind_piece rest)) ∙ sym (ap (λ ps. found ++ ps) is.first) ∙ f)

-- the pieces of a text of which `part` was read since the last blank
abbrev pub pieces_from : List ℕ → List ℕ → List (List ℕ)
pieces_from part [] = if_any part
pieces_from part (c ∷ cs) = if is_blank c then if_any part ++ pieces_from [] cs else pieces_from (part ++ c ∷ []) cs

-- a part that was read, in front of the first of what is cut
abbrev onto : List ℕ → List (List ℕ) → List (List ℕ)
onto part [] = part ∷ []
onto part (p ∷ ps) = (part ++ p) ∷ ps

filter-if_any : (part : List ℕ) (rest : List (List ℕ)) → if_any part ++ filter is_filled rest ≡ filter is_filled (part ∷ rest)
filter-if_any [] rest = refl
filter-if_any (c ∷ cs) rest = refl

onto-none : (text : List ℕ) → onto [] (slice_split is_blank text) ≡ slice_split is_blank text
onto-none text = let has = first_of text in rw has.cut refl

onto-more : (part : List ℕ) (c : ℕ) (text : List ℕ)
    → onto (part ++ c ∷ []) (slice_split is_blank text) ≡ onto part (onto_first c (slice_split is_blank text))
onto-more part c text =
    let has = first_of text in
    rw has.cut (ap (λ p. p ∷ has.rest) (append_assoc part (c ∷ []) (until_blank text)))

from_by : (part : List ℕ) (c : ℕ) (cs : List ℕ) (b : Bool) → is_blank c ≡ b
    → pieces_from [] cs ≡ filter is_filled (onto [] (slice_split is_blank cs))
    → pieces_from (part ++ c ∷ []) cs ≡ filter is_filled (onto (part ++ c ∷ []) (slice_split is_blank cs))
    → (if b then if_any part ++ pieces_from [] cs else pieces_from (part ++ c ∷ []) cs)
    ≡ filter is_filled (onto part (cond b ([] ∷ slice_split is_blank cs) (onto_first c (slice_split is_blank cs))))
from_by part c cs true h none more =
    ap (λ ps. if_any part ++ ps) (none ∙ ap (filter is_filled) (onto-none cs))
    ∙ filter-if_any part (slice_split is_blank cs) ∙ ap (λ (p : List ℕ). filter is_filled (p ∷ slice_split is_blank cs)) (sym (append-nil part))
from_by part c cs false h none more = more ∙ ap (filter is_filled) (onto-more part c cs)

from_split : (part text : List ℕ) → pieces_from part text ≡ filter is_filled (onto part (slice_split is_blank text))
from_split [] [] = refl
from_split (c ∷ cs) [] = ap (λ (p : List ℕ). p ∷ []) (sym (append-nil (c ∷ cs)))
from_split part (c ∷ cs) = from_by part c cs (is_blank c) refl (from_split [] cs) (from_split (part ++ c ∷ []) cs)

-- reading a text character by character finds its pieces
pub pieces-read : (text : List ℕ) → pieces_from [] text ≡ pieces text
pieces-read text = from_split [] text ∙ ap (filter is_filled) (onto-none text)
