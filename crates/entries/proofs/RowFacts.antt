-- The tree of a list of rows, and the placing of one row more.
use Rattle.std.specs.Prelude.{◌≡◌, ℕ, zero, suc, Bool, true, false, not, ◌||◌, Option, Some, None, List, [], ◌∷◌, length, is_some, nat_lt, cond}
use Rattle.std.proofs.Common.{sym, ap, ◌∙◌, ◌⊎◌, subst, true≢false, inl, inr, refl}
use Rattle.std.specs.Option.{option_or}
use Rattle.std.specs.List.{list_any}
use Rattle.std.specs.FinMap.{get}
use Rattle.std.specs.Ordering.{eq_by_cmp}
use Rattle.std.proofs.lemmas.Bool.{le-ltb}
use Rattle.std.proofs.lemmas.Option.{same_Some, none-some}
use Rattle.plain.specs.Limits.{most_components}
use Rattle.paths.specs.Order.{path_cmp}
use Rattle.paths.specs.Path.{IsClean}
use Rattle.paths.specs.Fronts.{is_front}
use Rattle.paths.proofs.FrontLaws.{path_same, path_itself, both_first, both_second, both_hold}
use Rattle.trees.specs.declared.entry.Entry.{Entry}
use Rattle.trees.specs.declared.entry.Entry.TheVariants.{Directory, File}
use Rattle.trees.specs.declared.cause.Cause.TheVariants.{F5, F2}
use Rattle.trees.specs.TreeMap.{directory_meta, is_file, is_blocked}
use Rattle.trees.specs.Put.{planted, cause_at, clash_of}
use Rattle.trees.proofs.TreeLaws.{get-empty_tree, get-placed}
use Rattle.trees.proofs.WayLaws.{open-from_fronts}
use Rattle.trees.specs.Row.{Row, Has}
use Rattle.entries.specs.Listing.{clash, are_apart, is_root, is_root_file, is_listing}
use Rattle.trees.specs.Whole.{tree_of, StandsAt, ArePlaceable}
use Rattle.entries.proofs.ApartFacts.{clash-same, clash-way, clash-back}

-- what stands at a path once an entry was placed: the entry, or what stood there, or a directory on the way
pub planted-how : (old : List (List ℕ) → Option Entry) (path : List (List ℕ)) (entry : Entry) (q : List (List ℕ)) (found : Entry) → planted old path directory_meta entry q ≡ Some found
    → ((q ≡ path) × (entry ≡ found)) ⊎ ((old q ≡ Some found) ⊎ ((found ≡ Directory directory_meta) × (is_front q path ≡ true)))
planted-how old path entry q found h = by (eq_by_cmp path_cmp q path) refl (old q) refl (is_front q path) refl
  where
    by : (a : Bool) → eq_by_cmp path_cmp q path ≡ a → (o : Option Entry) → old q ≡ o → (f : Bool) → is_front q path ≡ f → ((q ≡ path) × (entry ≡ found)) ⊎ ((old q ≡ Some found) ⊎ ((found ≡ Directory directory_meta) × (is_front q path ≡ true)))
    by true a o b f d = inl (path_same q path a, same_Some entry found (sym (ap (λ x. cond x (Some entry) (option_or (old q) (cond (is_front q path) (Some (Directory directory_meta)) None))) a) ∙ h))
    by false a (Some there) b f d = inr (inl (b ∙ sym (λ i. cond (a i) (Some entry) (option_or (b i) (cond (is_front q path) (Some (Directory directory_meta)) None))) ∙ h))
    by false a None b true d = inr (inr (sym (same_Some (Directory directory_meta) found (sym (λ i. cond (a i) (Some entry) (option_or (b i) (cond (d i) (Some (Directory directory_meta)) None))) ∙ h)), d))
    by false a None b false d = absurd (none-some found (sym (λ i. cond (a i) (Some entry) (option_or (b i) (cond (d i) (Some (Directory directory_meta)) None))) ∙ h))

has-later : (row : Row) (rows : List Row) (other : Row) → Has rows other → Has (row ∷ rows) other
has-later row rows other h = (suc h.0, h.1)

-- what stands in the tree of a list stands for its path
pub tree-only : (rows : List Row) (path : List (List ℕ)) (entry : Entry) → get (tree_of rows) path ≡ Some entry → StandsAt rows path entry
tree-only [] path entry h = by (eq_by_cmp path_cmp path []) refl
  where
    by : (b : Bool) → eq_by_cmp path_cmp path [] ≡ b → StandsAt [] path entry
    by true e = inr (sym (same_Some (Directory directory_meta) entry (sym (ap (λ b. cond b (Some (Directory directory_meta)) None) e) ∙ sym (get-empty_tree path) ∙ h)), inl (path_same path [] e))
    by false e = absurd (none-some entry (sym (ap (λ b. cond b (Some (Directory directory_meta)) None) e) ∙ sym (get-empty_tree path) ∙ h))
tree-only (row ∷ rows) path entry h =
    elim (planted-how (get (tree_of rows)) row.0 row.1 path entry (sym (get-placed directory_meta (tree_of rows) row.0 row.1 path) ∙ h)) [
      | inl here ↦ inl (row, ((0, refl), (sym here.0, here.1)))
      | inr more ↦ elim more [
        | inl old ↦ elim (tree-only rows path entry old) [
          | inl own ↦ inl (own.0, (has-later row rows own.0 own.1.0, own.1.1))
          | inr made ↦ inr (made.0, elim made.1 [ inl root ↦ inl root | inr way ↦ inr (way.0, (has-later row rows way.0 way.1.0, way.1.1)) ])
        ]
        | inr way ↦ inr (way.0, inr (row, ((0, refl), way.1)))
      ]
    ]

none-first : (a b : Bool) → (a || b) ≡ false → a ≡ false
none-first true b h = absurd (true≢false h)
none-first false b h = refl

none-rest : (a b : Bool) → (a || b) ≡ false → b ≡ false
none-rest true b h = absurd (true≢false h)
none-rest false b h = h

not-true : (b : Bool) → not b ≡ true → b ≡ false
not-true true h = absurd (true≢false (sym h))
not-true false h = refl

-- a row that has none passes with none of the others
pub none-of : (test : Row → Bool) (rows : List Row) (row : Row) → list_any test rows ≡ false → Has rows row → test row ≡ false
none-of test [] row h has = absurd (none-some row has.1)
none-of test (first ∷ rows) row h (zero, e) = ap test (sym (same_Some first row e)) ∙ none-first (test first) (list_any test rows) h
none-of test (first ∷ rows) row h (suc n, e) = none-of test rows row (none-rest (test first) (list_any test rows) h) (n, e)

-- the parts of a list of a tree's entries
pub listing-root : (rows : List Row) → is_listing rows ≡ true → list_any is_root_file rows ≡ false
unfolding is_listing
listing-root rows h = not-true (list_any is_root_file rows) (both_first (not (list_any is_root_file rows)) (are_apart rows) h)

pub listing-apart : (rows : List Row) → is_listing rows ≡ true → are_apart rows ≡ true
unfolding is_listing
listing-apart rows h = both_second (not (list_any is_root_file rows)) (are_apart rows) h

pub listing-tail : (row : Row) (rows : List Row) → is_listing (row ∷ rows) ≡ true → is_listing rows ≡ true
unfolding is_listing
listing-tail row rows h =
    both_hold (not (list_any is_root_file rows)) (are_apart rows)
    (ap (λ b. not b) (none-rest (is_root_file row) (list_any is_root_file rows) (listing-root (row ∷ rows) h)))
    (both_second (not (list_any (clash row) rows)) (are_apart rows) (listing-apart (row ∷ rows) h))

first-apart : (row : Row) (rows : List Row) → is_listing (row ∷ rows) ≡ true → list_any (clash row) rows ≡ false
first-apart row rows h = not-true (list_any (clash row) rows) (both_first (not (list_any (clash row) rows)) (are_apart rows) (listing-apart (row ∷ rows) h))

-- the first row clashes with no other
pub no-clash : (row : Row) (rows : List Row) (other : Row) → is_listing (row ∷ rows) ≡ true → Has rows other → clash row other ≡ true → ⊥
no-clash row rows other h has is = true≢false (sym is ∙ none-of (clash row) rows other (first-apart row rows h) has)

module _ (row : Row) (rows : List Row) (h : is_listing (row ∷ rows) ≡ true) where
  -- no file stands on the way to it
  open-way : (front : List (List ℕ)) → is_front front row.0 ≡ true → is_file (get (tree_of rows) front) ≡ false
  open-way front way = by (get (tree_of rows) front) refl
    where
      by : (o : Option Entry) → get (tree_of rows) front ≡ o → is_file o ≡ false
      by None e = refl
      by (Some (Directory meta)) e = refl
      by (Some (File meta content)) e = absurd (elim (tree-only rows front (File meta content) e) [
        | inl own ↦ no-clash row rows own.0 h own.1.0 (clash-back row own.0 (both_hold (is_file (Some own.0.1)) (is_front own.0.0 row.0) (ap (λ x. is_file (Some x)) own.1.1.1) (subst (λ (p : List (List ℕ)). is_front p row.0 ≡ true) (sym own.1.1.0) way)))
        | inr made ↦ true≢false (ap (λ x. is_file (Some x)) made.0)
      ])

  -- and nothing of another kind at its path
  same-kind : (o : Option Entry) → get (tree_of rows) row.0 ≡ o → clash_of o row.1 ≡ None
  same-kind None e = refl
  same-kind (Some there) e = elim (tree-only rows row.0 there e) [
    | inl own ↦ absurd (no-clash row rows own.0 h own.1.0 (clash-same row own.0 (sym own.1.1.0)))
    | inr made ↦ ap (λ x. clash_of (Some x) row.1) made.0 ∙ with-directory row.1 refl made.1
  ]
    where
      with-directory : (entry : Entry) → row.1 ≡ entry → (row.0 ≡ []) ⊎ ((other : Row) × (Has rows other × (is_front row.0 other.0 ≡ true))) → clash_of (Some (Directory directory_meta)) row.1 ≡ None
      with-directory (Directory meta) e way = ap (λ x. clash_of (Some (Directory directory_meta)) x) e
      with-directory (File meta content) e (inl root) =
          absurd (true≢false (sym (both_hold (is_file (Some row.1)) (is_root row.0) (ap (λ x. is_file (Some x)) e) (ap (λ p. is_root p) root)) ∙ none-first (is_root_file row) (list_any is_root_file rows) (listing-root (row ∷ rows) h)))
      with-directory (File meta content) e (inr (other, (has, way))) =
          absurd (no-clash row rows other h has (clash-way row other (both_hold (is_file (Some row.1)) (is_front row.0 other.0) (ap (λ x. is_file (Some x)) e) way)))

  -- so it can be placed
  pub no-cause : IsClean row.0 → cause_at (get (tree_of rows)) row.0 row.1 ≡ None
  no-cause clean =
      let few = clean.few in
      let deep : nat_lt most_components (length row.0) ≡ false = le-ltb most_components (length row.0) few in
      let free : is_blocked (get (tree_of rows)) row.0 ≡ false = open-from_fronts (get (tree_of rows)) row.0 open-way in
      ap (λ b. cond b (Some F5) (cond (is_blocked (get (tree_of rows)) row.0) (Some F2) (clash_of (get (tree_of rows) row.0) row.1))) deep
      ∙ ap (λ b. cond b (Some F2) (clash_of (get (tree_of rows) row.0) row.1)) free ∙ same-kind (get (tree_of rows) row.0) refl

-- and all of them can, one after another
pub placeable : (rows : List Row) → is_listing rows ≡ true → ArePlaceable rows
placeable [] h = tt
placeable (row ∷ rows) h = (no-cause row rows h, placeable rows (listing-tail row rows h))

planted-here : (old : List (List ℕ) → Option Entry) (path : List (List ℕ)) (entry : Entry) → planted old path directory_meta entry path ≡ Some entry
planted-here old path entry = ap (λ b. cond b (Some entry) (option_or (old path) (cond (is_front path path) (Some (Directory directory_meta)) None))) (path_itself path)

planted-old : (old : List (List ℕ) → Option Entry) (path : List (List ℕ)) (entry : Entry) (q : List (List ℕ)) (found : Entry) → (q ≡ path → ⊥) → old q ≡ Some found → planted old path directory_meta entry q ≡ Some found
planted-old old path entry q found off h = by (eq_by_cmp path_cmp q path) refl
  where
    by : (b : Bool) → eq_by_cmp path_cmp q path ≡ b → planted old path directory_meta entry q ≡ Some found
    by true e = absurd (off (path_same q path e))
    by false e = λ i. cond (e i) (Some entry) (option_or (h i) (cond (is_front q path) (Some (Directory directory_meta)) None))

planted-some : (old : List (List ℕ) → Option Entry) (path : List (List ℕ)) (entry : Entry) (q : List (List ℕ)) → (is_some (old q) ≡ true) ⊎ (is_front q path ≡ true) → is_some (planted old path directory_meta entry q) ≡ true
planted-some old path entry q h = by (eq_by_cmp path_cmp q path) (old q) (is_front q path) h
  where
    by : (b : Bool) (o : Option Entry) (f : Bool) → (is_some o ≡ true) ⊎ (f ≡ true) → is_some (cond b (Some entry) (option_or o (cond f (Some (Directory directory_meta)) None))) ≡ true
    by true o f h = refl
    by false (Some x) f h = refl
    by false None true h = refl
    by false None false (inl h) = h
    by false None false (inr h) = h

-- each row stands in the tree of its list
pub tree-rows : (rows : List Row) (row : Row) → is_listing rows ≡ true → Has rows row → get (tree_of rows) row.0 ≡ Some row.1
tree-rows [] row h has = absurd (none-some row has.1)
tree-rows (first ∷ rows) row h (zero, e) =
    let same : first ≡ row = same_Some first row e in
    subst (λ (r : Row). get (tree_of (first ∷ rows)) r.0 ≡ Some r.1) same (get-placed directory_meta (tree_of rows) first.0 first.1 first.0 ∙ planted-here (get (tree_of rows)) first.0 first.1)
tree-rows (first ∷ rows) row h (suc n, e) =
    get-placed directory_meta (tree_of rows) first.0 first.1 row.0
    ∙ planted-old (get (tree_of rows)) first.0 first.1 row.0 row.1 (λ same. no-clash first rows row h (n, e) (clash-same first row (sym same))) (tree-rows rows row (listing-tail first rows h) (n, e))

-- and something stands on the way to it
pub tree-ways : (rows : List Row) (row : Row) (path : List (List ℕ)) → is_front path row.0 ≡ true → Has rows row → is_some (get (tree_of rows) path) ≡ true
tree-ways [] row path way has = absurd (none-some row has.1)
tree-ways (first ∷ rows) row path way (zero, e) =
    ap (λ o. is_some o) (get-placed directory_meta (tree_of rows) first.0 first.1 path)
    ∙ planted-some (get (tree_of rows)) first.0 first.1 path (inr (subst (λ (r : Row). is_front path r.0 ≡ true) (sym (same_Some first row e)) way))
tree-ways (first ∷ rows) row path way (suc n, e) =
    ap (λ o. is_some o) (get-placed directory_meta (tree_of rows) first.0 first.1 path)
    ∙ planted-some (get (tree_of rows)) first.0 first.1 path (inl (tree-ways rows row path way (n, e)))
