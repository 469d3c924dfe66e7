-- How the gaps of a tree are found, and what they say of a context.
use Rattle.std.proofs.Common.{◌≡◌, ◌∙◌, ◌↔◌, ◌+◌, ◌<◌, ◌≤◌, ◌⊎◌, ◌||◌, ℕ, zero, suc, Bool, true, false, List, [], ◌∷◌, ◌++◌, Option, Some, None, sym, ap, refl, subst, inl, inr, true≢false, arith, length, take, drop, get_or, append_assoc, map, cond}
use Rattle.std.specs.Option.{is_some, option_and_then}
use Rattle.std.specs.List.{list_any}
use Rattle.std.specs.Prelude.{slice_get}
use Rattle.std.specs.FinMap.{get}
use Rattle.std.specs.Ordering.{eq_by_cmp}
use Rattle.std.proofs.lemmas.List.{append-nil, take_more, take-append-drop, length-take-le, length-append}
use Rattle.std.proofs.lemmas.List.Folds.{list_any_more}
use Rattle.std.proofs.lemmas.Bool.{false_from_ne_true, cases_lt}
use Rattle.std.proofs.lemmas.Option.{same_Some, none-some}
use Rattle.std.proofs.Math.Seq.{take-append_seam}
use Rattle.paths.specs.Order.{path_cmp}
use Rattle.paths.specs.Fronts.{is_front}
use Rattle.paths.specs.Path.{is_at_or_under}
use Rattle.paths.proofs.PathLaws.{under_iff}
use Rattle.paths.proofs.FrontLaws.{path_same, path_itself, front-parts, under_parts, front-trans, no-front-of-root}
use Rattle.trees.specs.declared.entry.Entry.{Entry}
use Rattle.trees.specs.Row.{Row, Has}
use Rattle.trees.specs.TreeMap.{TreeMap, IsTree}
use Rattle.ignorefile.specs.declared.line.Line.{Line}
use Rattle.contexts.specs.Context.{IsContext}
use Rattle.contexts.specs.Left.{IsGap, AreLeftOut, has_path, is_over, is_covered}
use Rattle.contexts.specs.PrivateLeft.{Stand}
use Rattle.contexts.proofs.Gaps.{or_cases, or_first, or_second, some_path, from_path, no_gap, one_gap, some_gap}

abbrev Names : Type 0
Names = List (List ℕ)

-- ---- one name further

module _ (tree branch : TreeMap) (names : Names) (i : ℕ) (name : List ℕ) (within : i < length names) (is : name ≡ get_or names i name)
    (below : (rest : Names) → get branch rest ≡ get tree (take i names ++ rest)) where
  one_more : take (i + 1) names ≡ take i names ++ name ∷ []
  one_more = take_more names i name within ∙ ap (λ n. take i names ++ n ∷ []) (sym is)

  further : (rest : Names) → take i names ++ name ∷ rest ≡ take (i + 1) names ++ rest
  further rest = sym (append_assoc (take i names) (name ∷ []) rest) ∙ ap (λ front. front ++ rest) (sym one_more)

  pub nothing_next : (found : Option TreeMap) → ((rest : Names) → get branch (name ∷ rest) ≡ option_and_then (λ child. get child rest) found) → found ≡ None
      → is_some (get tree (take (i + 1) names)) ≡ false
  nothing_next found gives none =
      ap (λ p. is_some (get tree p)) one_more ∙ ap (λ o. is_some o) (sym (below (name ∷ [])) ∙ gives [] ∙ ap (λ found. option_and_then (λ child. get child []) found) none)

  pub child_below : (child : TreeMap) (found : Option TreeMap) → ((rest : Names) → get branch (name ∷ rest) ≡ option_and_then (λ child. get child rest) found) → found ≡ Some child
      → (rest : Names) → get child rest ≡ get tree (take (i + 1) names ++ rest)
  child_below child found gives is_child rest =
      sym (ap (λ found. option_and_then (λ child. get child rest) found) is_child) ∙ sym (gives rest) ∙ below (name ∷ rest) ∙ ap (λ p. get tree p) (further rest)

pub child_there : (tree child : TreeMap) (names : Names) (i : ℕ) (entry : Entry) → ((rest : Names) → get child rest ≡ get tree (take (i + 1) names ++ rest)) → get child [] ≡ Some entry
    → is_some (get tree (take (i + 1) names)) ≡ true
child_there tree child names i entry below there =
    ap (λ p. is_some (get tree p)) (sym (append-nil (take (i + 1) names))) ∙ ap (λ o. is_some o) (sym (below [])) ∙ ap (λ o. is_some o) there

-- what stands so far, and one more
pub there_more : (tree : TreeMap) (names : Names) (i : ℕ) → ((n : ℕ) → n ≤ i → is_some (get tree (take n names)) ≡ true)
    → is_some (get tree (take (i + 1) names)) ≡ true → (n : ℕ) → n ≤ i + 1 → is_some (get tree (take n names)) ≡ true
there_more tree names i there last n most = elim (cases_lt n (i + 1)) [
  | inl less ↦ there n (omega (arith, less))
  | inr not_less ↦ (let same : n ≡ i + 1 = omega (arith, not_less, most) in ap (λ (m : ℕ). is_some (get tree (take m names))) same ∙ last)
]

-- ---- the gap at a path or above it

pub is_gap : (tree : TreeMap) (names : Names) (depth : ℕ) → Stand tree names depth → depth < length names → IsGap tree (take (depth + 1) names)
is_gap tree names depth stand within = record {
  lacks = stand.next within;
  within = λ front h. (
      let parts = front-parts front (take (depth + 1) names) h in
      let whole : names ≡ front ++ ((parts.0 ∷ parts.1.0) ++ drop (depth + 1) names) =
      sym (take-append-drop (depth + 1) names) ∙ ap (λ p. p ++ drop (depth + 1) names) parts.1.1 ∙ append_assoc front (parts.0 ∷ parts.1.0) (drop (depth + 1) names) in
      let begins : take (length front) names ≡ front =
      ap (λ p. take (length front) p) whole ∙ take-append_seam front ((parts.0 ∷ parts.1.0) ++ drop (depth + 1) names) in
      let all : length (take (depth + 1) names) ≡ depth + 1 = length-take-le (depth + 1) names (omega (arith, within)) in
      let both : length (take (depth + 1) names) ≡ length front + length (parts.0 ∷ parts.1.0) =
      ap (λ p. length p) parts.1.1 ∙ length-append front (parts.0 ∷ parts.1.0) in
      let short : length front ≤ depth = omega (arith, all, both) in
      ap (λ p. is_some (get tree p)) (sym begins) ∙ stand.there (length front) short);
}

pub under_take : (names : Names) (n : ℕ) → is_at_or_under names (take n names) ≡ true
under_take names n = (under_iff names (take n names)).1 (drop n names, sym (take-append-drop n names))

-- ---- one gap more

abbrev IsAt : TreeMap → Names → Names → Type 0
IsAt tree path q = IsGap tree q × (is_at_or_under path q ≡ true)

pub with_gap : (tree : TreeMap) (path g : Names) → IsAt tree path g → (old new : Names → Bool) → ((q : Names) → new q ≡ cond (eq_by_cmp path_cmp g q) true (old q))
    → (q : Names) → (new q ≡ true) ↔ ((old q ≡ true) ⊎ IsAt tree path q)
with_gap tree path g here old new updates q = (gained (eq_by_cmp path_cmp g q) refl, back)
  where
    gained : (b : Bool) → eq_by_cmp path_cmp g q ≡ b → new q ≡ true → (old q ≡ true) ⊎ IsAt tree path q
    gained true same h = inr (subst (λ (p : Names). IsAt tree path p) (path_same g q same) here)
    gained false other h = inl (sym (updates q ∙ ap (λ b. cond b true (old q)) other) ∙ h)

    kept : (b : Bool) → old q ≡ true → cond b true (old q) ≡ true
    kept true h = refl
    kept false h = h

    back : (old q ≡ true) ⊎ IsAt tree path q → new q ≡ true
    back (inl h) = updates q ∙ kept (eq_by_cmp path_cmp g q) h
    back (inr at) =
        let same : g ≡ q = one_gap tree path g q here.0 at.0 here.1 at.1 in
        updates q ∙ ap (λ b. cond b true (old q)) (ap (λ p. eq_by_cmp path_cmp g p) (sym same) ∙ path_itself g)

pub without_gap : (tree : TreeMap) (path : Names) → IsTree tree → is_some (get tree path) ≡ true → (old : Names → Bool) (q : Names) → (old q ≡ true) ↔ ((old q ≡ true) ⊎ IsAt tree path q)
without_gap tree path whole there old q = (λ h. inl h, back)
  where
    back : (old q ≡ true) ⊎ IsAt tree path q → old q ≡ true
    back (inl h) = h
    back (inr at) = absurd (no_gap tree path q whole there at.0 at.1)

-- the gaps of the paths so far, and those of one more
pub gaps_more : (tree : TreeMap) (paths : List Names) (i : ℕ) (path : Names) → i < length paths → path ≡ get_or paths i path → (old new : Names → Bool)
    → ((q : Names) → (old q ≡ true) ↔ (IsGap tree q × (is_over (take i paths) q ≡ true))) → ((q : Names) → (new q ≡ true) ↔ ((old q ≡ true) ⊎ IsAt tree path q))
    → (q : Names) → (new q ≡ true) ↔ (IsGap tree q × (is_over (take (i + 1) paths) q ≡ true))
gaps_more tree paths i path within is old new before step q = (λ h. there ((step q).0 h), λ h. (step q).1 (back (or_cases (is_over (take i paths) q) (is_at_or_under path q) (sym over ∙ h.1)) h.0))
  where
    over : is_over (take (i + 1) paths) q ≡ (is_over (take i paths) q || is_at_or_under path q)
    over = list_any_more (λ other. is_at_or_under other q) paths i path within ∙ ap (λ p. is_over (take i paths) q || is_at_or_under p q) (sym is)

    there : (old q ≡ true) ⊎ IsAt tree path q → IsGap tree q × (is_over (take (i + 1) paths) q ≡ true)
    there (inl h) = (((before q).0 h).0, over ∙ or_first (is_over (take i paths) q) (is_at_or_under path q) ((before q).0 h).1)
    there (inr at) = (at.0, over ∙ or_second (is_over (take i paths) q) (is_at_or_under path q) at.1)

    back : (is_over (take i paths) q ≡ true) ⊎ (is_at_or_under path q ≡ true) → IsGap tree q → (old q ≡ true) ⊎ IsAt tree path q
    back (inl h) gap = inl ((before q).1 (gap, h))
    back (inr h) gap = inr (gap, h)

-- ---- a context

has_row : (rows : List Row) (n : ℕ) (row : Row) → slice_get rows n ≡ Some row → has_path (map (λ (r : Row). r.0) rows) row.0 ≡ true
has_row [] n row e = absurd (none-some row e)
has_row (first ∷ rows) zero row e =
    or_first (eq_by_cmp path_cmp row.0 first.0) (has_path (map (λ (r : Row). r.0) rows) row.0) (ap (λ (r : Row). eq_by_cmp path_cmp row.0 r.0) (same_Some first row e) ∙ path_itself row.0)
has_row (first ∷ rows) (suc n) row e = or_second (eq_by_cmp path_cmp row.0 first.0) (has_path (map (λ (r : Row). r.0) rows) row.0) (has_row rows n row e)

module _ (rows : List Row) (lines : List Line) (tree : TreeMap) (context : IsContext rows lines tree) where
  -- what lies above what is there is there
  above_there : (path q : Names) → is_some (get tree path) ≡ true → is_at_or_under path q ≡ true → is_some (get tree q) ≡ true
  above_there path q there under = elim (under_parts path q under) [
    | inl same ↦ ap (λ p. is_some (get tree p)) (sym same) ∙ there
    | inr front ↦ elim (context.only path there) [
      | inl root ↦ absurd (true≢false (sym front ∙ ap (λ p. is_front q p) root ∙ no-front-of-root q))
      | inr w ↦ (let way = context.ways w.0 q w.1.0 w.1.1.0 (below w.0.0 w.1.1.1 front) in ap (λ o. is_some o) way.1.0)
    ]
  ]
    where
      below : (listed : Names) → (listed ≡ path) ⊎ (is_front path listed ≡ true) → is_front q path ≡ true → is_front q listed ≡ true
      below listed (inl same) front = ap (λ p. is_front q p) same ∙ front
      below listed (inr more) front = front-trans q path listed front more

  module _ (left : List Names) (lacks : AreLeftOut tree (map (λ (row : Row). row.0) rows) left) (row : Row) (has : Has rows row) where
    uncovered : is_some (get tree row.0) ≡ true → is_covered left row.0 ≡ false
    uncovered there = false_from_ne_true (is_covered left row.0) (λ covered.
        let w = some_path (λ top. is_at_or_under row.0 top) left covered in
        true≢false (sym (above_there row.0 w.0 there w.1.1) ∙ ((lacks.each w.0).0 w.1.0).0.lacks))

    stands : (b : Bool) → is_some (get tree row.0) ≡ b → is_covered left row.0 ≡ false → is_some (get tree row.0) ≡ true
    stands true e off = e
    stands false e off =
        let w = some_gap tree row.0 e in
        let listed = from_path (λ other. is_at_or_under other w.0) (map (λ (row : Row). row.0) rows) row.0 (has_row rows has.0 row has.1) w.1.1 in
        let covered = from_path (λ top. is_at_or_under row.0 top) left w.0 ((lacks.each w.0).1 (w.1.0, listed)) w.1.1 in
        absurd (true≢false (sym covered ∙ off))

    pub what_is_left : (is_some (get tree row.0) ≡ true) ↔ (is_covered left row.0 ≡ false)
    what_is_left = (uncovered, stands (is_some (get tree row.0)) refl)
