-- Gaps of trees: at a path or above it there is one if the path isn't there, and no other.
use Rattle.std.proofs.Common.{◌≡◌, ◌∙◌, ◌↔◌, ◌+◌, ◌<◌, ◌≤◌, ◌⊎◌, ◌||◌, ℕ, Bool, true, false, List, [], ◌∷◌, ◌++◌, Option, Some, None, sym, ap, refl, subst, inl, inr, true≢false, arith, length, take, append_assoc}
use Rattle.std.specs.Option.{is_some}
use Rattle.std.specs.List.{list_any}
use Rattle.std.specs.FinMap.{get}
use Rattle.std.specs.Ordering.{eq_by_cmp}
use Rattle.std.proofs.lemmas.List.{append-nil}
use Rattle.paths.specs.Order.{name_cmp, path_cmp}
use Rattle.paths.specs.Fronts.{is_front}
use Rattle.paths.specs.Path.{is_at_or_under}
use Rattle.paths.proofs.PathLaws.{under_iff}
use Rattle.paths.proofs.FrontLaws.{path_same, path_itself, name_same, name_itself, both_first, both_second, both_hold, no-front-of-root, under_parts}
use Rattle.trees.specs.declared.entry.Entry.{Entry}
use Rattle.trees.specs.TreeMap.{TreeMap, IsTree, is_directory}
use Rattle.contexts.specs.Left.{IsGap, has_path}

abbrev Names : Type 0
Names = List (List ℕ)

-- ---- tests of lists

pub or_cases : (a b : Bool) → (a || b) ≡ true → (a ≡ true) ⊎ (b ≡ true)
or_cases true b h = inl refl
or_cases false b h = inr h

pub or_first : (a b : Bool) → a ≡ true → (a || b) ≡ true
or_first true b h = refl
or_first false b h = absurd (true≢false (sym h))

pub or_second : (a b : Bool) → b ≡ true → (a || b) ≡ true
or_second true b h = refl
or_second false b h = h

-- a test that some path passes, and that path
pub some_path : (test : Names → Bool) (paths : List Names) → list_any test paths ≡ true → (path : Names) × ((has_path paths path ≡ true) × (test path ≡ true))
some_path test [] h = absurd (true≢false (sym h))
some_path test (path ∷ paths) h = elim (or_cases (test path) (list_any test paths) h) [
  | inl here ↦ (path, (or_first (eq_by_cmp path_cmp path path) (has_path paths path) (path_itself path), here))
  | inr more ↦ (let w = some_path test paths more in (w.0, (or_second (eq_by_cmp path_cmp w.0 path) (has_path paths w.0) w.1.0, w.1.1)))
]

pub from_path : (test : Names → Bool) (paths : List Names) (path : Names) → has_path paths path ≡ true → test path ≡ true → list_any test paths ≡ true
from_path test [] path h passes = absurd (true≢false (sym h))
from_path test (other ∷ paths) path h passes = elim (or_cases (eq_by_cmp path_cmp path other) (has_path paths path) h) [
  | inl same ↦ or_first (test other) (list_any test paths) (ap test (sym (path_same path other same)) ∙ passes)
  | inr more ↦ or_second (test other) (list_any test paths) (from_path test paths path more passes)
]

-- ---- fronts

-- two paths that begin one path are one, or one lies below the other
pub prefixes : (q g r s : Names) → q ++ r ≡ g ++ s → (q ≡ g) ⊎ ((is_front q g ≡ true) ⊎ (is_front g q ≡ true))
prefixes [] [] r s e = inl refl
prefixes [] (d ∷ ds) r s e = inr (inl refl)
prefixes (c ∷ cs) [] r s e = inr (inr refl)
prefixes (c ∷ cs) (d ∷ ds) r s e =
    let first : c ≡ d = cc in
    let rest : cs ++ r ≡ ds ++ s = cc in
    elim (prefixes cs ds r s rest) [
      | inl same ↦ inl (λ i. first i ∷ same i)
      | inr (inl below) ↦ inr (inl (both_hold (eq_by_cmp name_cmp c d) (is_front cs ds) (ap (eq_by_cmp name_cmp c) (sym first) ∙ name_itself c) below))
      | inr (inr above) ↦ inr (inr (both_hold (eq_by_cmp name_cmp d c) (is_front ds cs) (ap (eq_by_cmp name_cmp d) first ∙ name_itself d) above))
    ]

-- what lies above a path with one more name: the path, and what lies above it
pub front_last : (f done : Names) (name : List ℕ) → is_front f (done ++ name ∷ []) ≡ true → (f ≡ done) ⊎ (is_front f done ≡ true)
front_last [] [] name h = inl refl
front_last [] (x ∷ xs) name h = inr refl
front_last (d ∷ ds) [] name h = absurd (true≢false (sym (both_second (eq_by_cmp name_cmp d name) (is_front ds []) h) ∙ no-front-of-root ds))
front_last (d ∷ ds) (x ∷ xs) name h =
    let same : d ≡ x = name_same d x (both_first (eq_by_cmp name_cmp d x) (is_front ds (xs ++ name ∷ [])) h) in
    elim (front_last ds xs name (both_second (eq_by_cmp name_cmp d x) (is_front ds (xs ++ name ∷ [])) h)) [
      | inl e ↦ inl (λ i. same i ∷ e i)
      | inr more ↦ inr (both_hold (eq_by_cmp name_cmp d x) (is_front ds xs) (both_first (eq_by_cmp name_cmp d x) (is_front ds (xs ++ name ∷ [])) h) more)
    ]

-- ---- gaps

some_directory : (o : Option Entry) → is_directory o ≡ true → is_some o ≡ true
some_directory (Some entry) h = refl
some_directory None h = absurd (true≢false (sym h))

-- what is there lies below no gap
pub no_gap : (tree : TreeMap) (path q : Names) → IsTree tree → is_some (get tree path) ≡ true → IsGap tree q → is_at_or_under path q ≡ true → ⊥
no_gap tree path q whole there gap under = elim (under_parts path q under) [
  | inl same ↦ true≢false (sym there ∙ ap (λ p. is_some (get tree p)) same ∙ gap.lacks)
  | inr front ↦ true≢false (sym (some_directory (get tree q) (whole.parents q path front there)) ∙ gap.lacks)
]

-- there is one gap at a path or above it
pub one_gap : (tree : TreeMap) (path q g : Names) → IsGap tree q → IsGap tree g → is_at_or_under path q ≡ true → is_at_or_under path g ≡ true → q ≡ g
one_gap tree path q g a b under over =
    let r = (under_iff path q).0 under in
    let s = (under_iff path g).0 over in
    elim (prefixes q g r.0 s.0 (sym r.1 ∙ s.1)) [
      | inl same ↦ same
      | inr (inl below) ↦ absurd (true≢false (sym (b.within q below) ∙ a.lacks))
      | inr (inr above) ↦ absurd (true≢false (sym (a.within g above) ∙ b.lacks))
    ]

-- there is a gap at a path that isn't there or above it: the first names that lead nowhere
gap_after : (tree : TreeMap) (done rest : Names) → ((f : Names) → is_front f done ≡ true → is_some (get tree f) ≡ true) → is_some (get tree (done ++ rest)) ≡ false
    → (b : Bool) → is_some (get tree done) ≡ b → (q : Names) × (IsGap tree q × (is_at_or_under (done ++ rest) q ≡ true))
gap_after tree done rest above lacks false e = (done, (record { lacks = e; within = above }, (under_iff (done ++ rest) done).1 (rest, refl)))
gap_after tree done [] above lacks true e = absurd (true≢false (sym e ∙ ap (λ p. is_some (get tree p)) (sym (append-nil done)) ∙ lacks))
gap_after tree done (name ∷ rest) above lacks true e =
    let whole : (done ++ name ∷ []) ++ rest ≡ done ++ name ∷ rest = append_assoc done (name ∷ []) rest in
    let more = gap_after tree (done ++ name ∷ []) rest
    (λ f h. elim (front_last f done name h) [ inl same ↦ ap (λ p. is_some (get tree p)) same ∙ e | inr front ↦ above f front ])
    (ap (λ p. is_some (get tree p)) whole ∙ lacks) (is_some (get tree (done ++ name ∷ []))) refl in
    (more.0, (more.1.0, ap (λ p. is_at_or_under p more.0) (sym whole) ∙ more.1.1))

pub some_gap : (tree : TreeMap) (path : Names) → is_some (get tree path) ≡ false → (q : Names) × (IsGap tree q × (is_at_or_under path q ≡ true))
some_gap tree path lacks = gap_after tree [] path (λ f h. absurd (true≢false (sym h ∙ no-front-of-root f))) lacks (is_some (get tree [])) refl
