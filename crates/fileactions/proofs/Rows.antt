-- The entries of a folder, copied one after another: each after the folder that it lies in.
use Rattle.std.specs.Prelude.{◌≡◌, ℕ, Bool, true, false, cond, T, Option, Some, None, List, [], ◌∷◌, ◌++◌, ◌⊎◌, is_some, is_none, length}
use Rattle.std.proofs.Common.{sym, ap, refl, ◌∙◌, true≢false, inl, inr, append_assoc}
use Rattle.std.proofs.lemmas.Bool.{ltb-false}
use Rattle.std.specs.List.{AllByRecursion}
use Rattle.std.specs.Option.{option_or, option_and_then}
use Rattle.std.specs.Ordering.{eq_by_cmp, is_lt, ordering_reverse}
use Rattle.std.specs.declared.cmp.Ordering.{Ordering}
use Rattle.std.specs.declared.cmp.Ordering.TheVariants.{Less, Equal, Greater}
use Rattle.std.specs.FinMap.{get, insert, entries, get-entries, get-insert, find}
use Rattle.std.specs.FinMap.Entries.{is_sorted, below_all}
use Rattle.paths.specs.OrderLaws.{path_cmp_total}
use Rattle.paths.specs.Order.{path_cmp}
use Rattle.paths.specs.Path.{climbed}
use Rattle.paths.specs.Fronts.{is_front}
use Rattle.paths.proofs.FrontLaws.{path_same, path_itself, both_first, both_second, both_hold, front-irrefl, front-of}
use Rattle.paths.proofs.PathLaws.{climbed-append, path_cmp-append}
use Rattle.trees.specs.declared.meta.Meta.{Meta}
use Rattle.trees.specs.declared.entry.Entry.{Entry}
use Rattle.trees.specs.declared.entry.Entry.TheVariants.{Directory, File}
use Rattle.trees.specs.declared.copy.CopyOptions.{CopyOptions}
use Rattle.trees.specs.TreeMap.{TreeMap, IsTree, is_directory}
use Rattle.trees.specs.Put.{cause_at, clash_of, placed}
use Rattle.trees.specs.Copy.{parent_meta, placed_entry, placements, change_cause}
use Rattle.trees.specs.PrivateCopy.{with_change, IsNamed}
use Rattle.trees.proofs.TreeLaws.{same_tree, get-placed, free-from_cause, placed-IsTree}
use Rattle.fileactions.specs.Copying.{set_entry, with_entry, with_entries}
use Rattle.fileactions.proofs.Steps.{Path, Lead, free-placement, either-of, front-on}
use Rattle.fileactions.proofs.Paths.{setting_of, set-placed, last-of}

abbrev pub Rows : Type 0
Rows = List (Path × Entry)

-- a path lies in a folder that is known
abbrev pub IsIn : (Path → Type 0) → Path → Type 0
IsIn K path = (p : Path) × ((name : List ℕ) × ((path ≡ p ++ name ∷ []) × K p))

-- each row lies in a folder that is known, or in one that stands before it
abbrev pub AreReady : (Path → Type 0) → Rows → Type 0
AreReady K [] = Unit {0}
AreReady K (row ∷ rows) = IsIn K row.0 × AreReady (λ q. K q ⊎ ((q ≡ row.0) × (is_directory (Some row.1) ≡ true))) rows

-- ---- the rows of a tree

is-true : (b : Bool) → T b → b ≡ true
is-true true h = refl
is-true false h = absurd h

less : (x : Ordering) → is_lt x ≡ true → x ≡ Less
less Less e = refl
less Equal e = absurd (true≢false (sym e))
less Greater e = absurd (true≢false (sym e))

found-later : (k p : Path) (rows : Rows) → below_all path_cmp k rows ≡ true → is_some (find path_cmp p rows) ≡ true → path_cmp k p ≡ Less
found-later k p [] b s = absurd (true≢false (sym s))
found-later k p (row ∷ rows) b s = by (eq_by_cmp path_cmp p row.0) refl s (found-later k p rows (both_second (is_lt (path_cmp k row.0)) _ b))
  where
    by : (tie : Bool) → eq_by_cmp path_cmp p row.0 ≡ tie → is_some (cond tie (Some row.1) (find path_cmp p rows)) ≡ true → (is_some (find path_cmp p rows) ≡ true → path_cmp k p ≡ Less) → path_cmp k p ≡ Less
    by true t h later = ap (path_cmp k) (path_same p row.0 t) ∙ less (path_cmp k row.0) (both_first _ _ b)
    by false t h later = later h

not-both : (a b : Path) → path_cmp a b ≡ Less → path_cmp b a ≡ Less → ⊥
not-both a b one other = true≢false (ap is_lt (sym one ∙ (path_cmp_total.antisymm a b ∙ ap ordering_reverse other)))

found-in : (q : Path) (xs ys : Rows) → find path_cmp q (xs ++ ys) ≡ option_or (find path_cmp q xs) (find path_cmp q ys)
found-in q [] ys = refl
found-in q (x ∷ xs) ys = ap (cond (eq_by_cmp path_cmp q x.0) (Some x.1)) (found-in q xs ys) ∙ deeper (eq_by_cmp path_cmp q x.0)
  where
    deeper : (b : Bool) → cond b (Some x.1) (option_or (find path_cmp q xs) (find path_cmp q ys)) ≡ option_or (cond b (Some x.1) (find path_cmp q xs)) (find path_cmp q ys)
    deeper true = refl
    deeper false = refl

nothing-of : (o : Option Entry) → (is_some o ≡ true → ⊥) → o ≡ None
nothing-of None h = refl
nothing-of (Some e) h = absurd (h refl)

some-or : (o x : Option Entry) → is_some x ≡ true → is_some (option_or o x) ≡ true
some-or None x s = s
some-or (Some e) x s = refl

module _ (m : TreeMap) (is : IsTree m) where
  pub ready-from : (done rest : Rows) (K : Path → Type 0) → entries m ≡ done ++ rest → is_sorted path_cmp rest ≡ true → below_all path_cmp [] rest ≡ true
      → ((q : Path) (e : Entry) → find path_cmp q done ≡ Some e → is_directory (Some e) ≡ true → K q) → AreReady K rest
  ready-from done [] K whole sorted lower known = tt
  ready-from done (row ∷ rest) K whole sorted lower known = (
    in-folder row.0 refl,
    ready-from (done ++ row ∷ []) rest (λ q. K q ⊎ ((q ≡ row.0) × (is_directory (Some row.1) ≡ true))) (whole ∙ sym (append_assoc done (row ∷ []) rest))
        (both_second (below_all path_cmp row.0 rest) _ sorted) (both_second (is_lt (path_cmp [] row.0)) _ lower) more,
  )
    where
      here : is_some (find path_cmp row.0 (row ∷ rest)) ≡ true
      here = ap (λ b. is_some (cond b (Some row.1) (find path_cmp row.0 rest))) (path_itself row.0)

      there : is_some (get m row.0) ≡ true
      there = ap is_some (get-entries m row.0 ∙ ap (find path_cmp row.0) whole ∙ found-in row.0 done (row ∷ rest)) ∙ some-or (find path_cmp row.0 done) (find path_cmp row.0 (row ∷ rest)) here

      not-later : (p : Path) → is_front p row.0 ≡ true → path_cmp p row.0 ≡ Less → (tie : Bool) → eq_by_cmp path_cmp p row.0 ≡ tie → is_some (cond tie (Some row.1) (find path_cmp p rest)) ≡ true → ⊥
      not-later p front before true t s = true≢false (sym front ∙ ap (λ x. is_front x row.0) (path_same p row.0 t) ∙ front-irrefl row.0)
      not-later p front before false t s = not-both row.0 p (found-later row.0 p rest (both_first _ _ sorted) s) before

      its-folder : (p : Path) (o : Option Entry) → find path_cmp p done ≡ o → is_directory (option_or o None) ≡ true → K p
      its-folder p None at d = absurd (true≢false (sym d))
      its-folder p (Some e) at d = known p e at d

      in-folder : (path : Path) → row.0 ≡ path → IsIn K row.0
      in-folder [] e = absurd (true≢false (sym (both_first _ _ lower) ∙ ap (λ x. is_lt (path_cmp [] x)) e))
      in-folder (c ∷ cs) e =
          let last = last-of c cs in
          let p : Path = last.0 in
          let whole_path : row.0 ≡ p ++ last.1.0 ∷ [] = e ∙ last.1.1 in
          let front : is_front p row.0 ≡ true = ap (is_front p) whole_path ∙ front-of p last.1.0 [] in
          let before : path_cmp p row.0 ≡ Less = ap (path_cmp p) whole_path ∙ path_cmp-append p last.1.0 [] in
          let at : get m p ≡ option_or (find path_cmp p done) None =
          get-entries m p ∙ ap (find path_cmp p) whole ∙ found-in p done (row ∷ rest)
          ∙ ap (option_or (find path_cmp p done)) (nothing-of _ (not-later p front before (eq_by_cmp path_cmp p row.0) refl)) in
          (p, (last.1.0, (whole_path, its-folder p (find path_cmp p done) refl (ap is_directory (sym at) ∙ is.parents p row.0 front there))))

      more : (q : Path) (e : Entry) → find path_cmp q (done ++ row ∷ []) ≡ Some e → is_directory (Some e) ≡ true → K q ⊎ ((q ≡ row.0) × (is_directory (Some row.1) ≡ true))
      more q e at d = by (find path_cmp q done) refl (eq_by_cmp path_cmp q row.0) refl (sym (found-in q done (row ∷ [])) ∙ at)
        where
          by : (o : Option Entry) → find path_cmp q done ≡ o → (tie : Bool) → eq_by_cmp path_cmp q row.0 ≡ tie → option_or o (cond tie (Some row.1) None) ≡ Some e → K q ⊎ ((q ≡ row.0) × (is_directory (Some row.1) ≡ true))
          by (Some x) is_x tie t s = inl (known q x is_x (ap is_directory s ∙ d))
          by None none true t s = inr (path_same q row.0 t, ap is_directory s ∙ d)
          by None none false t s = absurd (true≢false (sym (ap is_some s)))

-- ---- one entry after another

no-clash : (o : Option Entry) (e : Entry) → clash_of o e ≡ None → is_directory o ≡ true → is_directory (Some e) ≡ true
no-clash None e c d = absurd (true≢false (sym d))
no-clash (Some (Directory m)) (Directory n) c d = refl
no-clash (Some (Directory m)) (File n b) c d = absurd (true≢false (ap is_some c))
no-clash (Some (File m b)) e c d = absurd (true≢false (sym d))

none-clash : {A : Type 0} (o : Option A) → o ≡ None → is_none o ≡ true
none-clash None e = refl
none-clash (Some c) e = absurd (true≢false (ap is_some e))

directory-kept : (o : CopyOptions) (e : Entry) → is_directory (Some (placed_entry o e)) ≡ is_directory (Some e)
directory-kept o (Directory meta) = refl
directory-kept o (File meta content) = refl

some-from : (o : Option Entry) → is_directory o ≡ true → is_some o ≡ true
some-from None d = d
some-from (Some e) d = refl

unneeded : (o : Option Entry) (b : Bool) (d : Entry) → (b ≡ true → is_some o ≡ true) → o ≡ option_or o (cond b (Some d) None)
unneeded None true d h = absurd (true≢false (sym (h refl)))
unneeded None false d h = refl
unneeded (Some x) b d h = refl

-- a folder stays one after a placement
pub placed-folder : (meta : Meta) (tree : TreeMap) (q x : Path) (e : Entry) → clash_of (get tree q) e ≡ None → is_directory (get tree x) ≡ true → is_directory (get (placed meta tree q e) x) ≡ true
placed-folder meta tree q x e clash there = ap is_directory (get-placed meta tree q e x) ∙ by (eq_by_cmp path_cmp x q) refl (get tree x) refl there
  where
    by : (tie : Bool) → eq_by_cmp path_cmp x q ≡ tie → (o : Option Entry) → get tree x ≡ o → is_directory o ≡ true → is_directory (cond tie (Some e) (option_or o (cond (is_front x q) (Some (Directory meta)) None))) ≡ true
    by true t o at d = no-clash (get tree q) e clash (ap (λ y. is_directory (get tree y)) (sym (path_same x q t)) ∙ there)
    by false t None at d = absurd (true≢false (sym d))
    by false t (Some y) at d = d

module _ (o : CopyOptions) (dest : Path) where
  entry-copied : (row : Path × Entry) (p : Path) (name : List ℕ) (tree : TreeMap) → IsTree tree → row.0 ≡ p ++ name ∷ [] → is_directory (get tree (dest ++ p)) ≡ true
      → clash_of (get tree (dest ++ row.0)) (placed_entry o row.1) ≡ None
      → with_entry (dest ++ row.0) (set_entry (setting_of o) row.1) tree ≡ Some (placed (parent_meta o) tree (dest ++ row.0) (placed_entry o row.1))
  entry-copied row p name tree is at folder clash =
      let q : Path = dest ++ row.0 in
      let e : Entry = placed_entry o row.1 in
      let path : q ≡ (dest ++ p) ++ name ∷ [] = ap (λ x. dest ++ x) at ∙ sym (append_assoc dest p (name ∷ [])) in
      let there : is_directory (get tree (climbed q)) ≡ true = ap (λ x. is_directory (get tree x)) (ap climbed path ∙ climbed-append (dest ++ p) name) ∙ folder in
      ap (λ x. with_entry q x tree) (set-placed o row.1)
      ∙ (λ i. cond (both_hold _ _ there (none-clash _ clash) i) (Some (insert tree q e)) None)
      ∙ ap Some (same_tree (insert tree q e) (placed (parent_meta o) tree q e) (λ x.
      get-insert path_cmp_total tree q e x
      ∙ ap (cond (eq_by_cmp path_cmp x q) (Some e)) (unneeded (get tree x) (is_front x q) (Directory (parent_meta o)) (on-way x path))
      ∙ sym (get-placed (parent_meta o) tree q e x)))
    where
      on-way : (x : Path) → dest ++ row.0 ≡ (dest ++ p) ++ name ∷ [] → is_front x (dest ++ row.0) ≡ true → is_some (get tree x) ≡ true
      on-way x path front = by (either-of (is_front x (dest ++ p)) (eq_by_cmp path_cmp x (dest ++ p)) (sym (front-on x (dest ++ p) name) ∙ ap (is_front x) (sym path) ∙ front))
        where
          by : (is_front x (dest ++ p) ≡ true) ⊎ (eq_by_cmp path_cmp x (dest ++ p) ≡ true) → is_some (get tree x) ≡ true
          by (inl f) = some-from (get tree x) (is.parents x (dest ++ p) f (some-from (get tree (dest ++ p)) folder))
          by (inr t) = some-from (get tree x) (ap (λ y. is_directory (get tree y)) (path_same x (dest ++ p) t) ∙ folder)

  pub entries-copied : (rows : Rows) (K : Path → Type 0) (tree new : TreeMap) → IsTree tree → ((q : Path) → K q → is_directory (get tree (dest ++ q)) ≡ true)
      → AllByRecursion IsNamed (placements o dest rows) → AreReady K rows → Lead change_cause (with_change (parent_meta o)) tree (placements o dest rows) new
      → with_entries (setting_of o) dest rows tree ≡ Some new
  entries-copied [] K tree new is known named ready way = ap Some way
  entries-copied (row ∷ rows) K tree new is known named ready way =
      let q : Path = dest ++ row.0 in
      let e : Entry = placed_entry o row.1 in
      let none : cause_at (get tree) q e ≡ None = free-placement (get tree) q e _ way.0.1 in
      let free = free-from_cause (get tree) q e none in
      let next : TreeMap = placed (parent_meta o) tree q e in
      let next_is : IsTree next = placed-IsTree (parent_meta o) tree q e is (record { names = named.0.names; short = named.0.short; few = ltb-false 64 (length q) free.few }) free in
      ap (option_and_then (with_entries (setting_of o) dest rows)) (entry-copied row ready.0.0 ready.0.1.0 tree is ready.0.1.1.0 (known ready.0.0 ready.0.1.1.1) free.clash)
      ∙ entries-copied rows (λ x. K x ⊎ ((x ≡ row.0) × (is_directory (Some row.1) ≡ true))) next new next_is (later free.clash) named.1 ready.1 way.1
    where
      later : clash_of (get tree (dest ++ row.0)) (placed_entry o row.1) ≡ None → (x : Path) → K x ⊎ ((x ≡ row.0) × (is_directory (Some row.1) ≡ true))
          → is_directory (get (placed (parent_meta o) tree (dest ++ row.0) (placed_entry o row.1)) (dest ++ x)) ≡ true
      later clash x (inl k) = placed-folder (parent_meta o) tree (dest ++ row.0) (dest ++ x) (placed_entry o row.1) clash (known x k)
      later clash x (inr h) =
          ap is_directory (get-placed (parent_meta o) tree (dest ++ row.0) (placed_entry o row.1) (dest ++ x))
          ∙ (λ i. is_directory (cond (eq_by_cmp path_cmp (dest ++ h.0 i) (dest ++ row.0)) (Some (placed_entry o row.1)) (option_or (get tree (dest ++ h.0 i)) (cond (is_front (dest ++ h.0 i) (dest ++ row.0)) (Some (Directory (parent_meta o))) None))))
          ∙ (λ i. is_directory (cond (path_itself (dest ++ row.0) i) (Some (placed_entry o row.1)) (option_or (get tree (dest ++ row.0)) (cond (is_front (dest ++ row.0) (dest ++ row.0)) (Some (Directory (parent_meta o))) None))))
          ∙ directory-kept o row.1 ∙ h.1
