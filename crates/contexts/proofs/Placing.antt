-- One row more is placed.
use Rattle.std.proofs.Common.{◌≡◌, ◌∙◌, ◌+◌, ◌≤◌, ◌⊎◌, ℕ, Bool, true, false, List, [], ◌∷◌, ◌++◌, reverse, Option, Some, None, sym, ap, refl, subst, inl, inr, true≢false, arith, length, cond}
use Rattle.std.specs.Option.{option_or, is_some}
use Rattle.std.specs.Prelude.{slice_get, nat_lt}
use Rattle.std.specs.FinMap.{get}
use Rattle.std.specs.Ordering.{eq_by_cmp}
use Rattle.std.proofs.lemmas.Bool.{le-ltb}
use Rattle.std.proofs.lemmas.List.{reverse-append}
use Rattle.std.proofs.lemmas.Option.{same_Some, none-some}
use Rattle.plain.specs.Limits.{most_components}
use Rattle.paths.specs.Order.{path_cmp}
use Rattle.paths.specs.Path.{IsClean}
use Rattle.paths.specs.Fronts.{is_front}
use Rattle.paths.proofs.FrontLaws.{path_same}
use Rattle.trees.specs.declared.cause.Cause.TheVariants.{F5, F2}
use Rattle.trees.specs.declared.entry.Entry.{Entry}
use Rattle.trees.specs.declared.entry.Entry.TheVariants.{Directory, File}
use Rattle.trees.specs.TreeMap.{TreeMap, directory_meta, is_directory, is_file, is_blocked, empty_tree}
use Rattle.trees.specs.Put.{planted, cause_at, clash_of}
use Rattle.trees.proofs.TreeLaws.{get-empty_tree, get-placed}
use Rattle.trees.proofs.WayLaws.{open-from_fronts}
use Rattle.trees.specs.Row.{Row}
use Rattle.trees.specs.Whole.{tree_of}
use Rattle.contexts.specs.Context.{IsListing, owned}
use Rattle.contexts.specs.PrivatePlaces.{Wanted, From, ComesFrom, IsPlaced, AreWanted}
use Rattle.contexts.proofs.Rows.{get-within, at-or-after, same-or-not, planted-here, planted-other, planted-kept}

some-of : (o : Option Entry) (e : Entry) → o ≡ Some e → is_some o ≡ true
some-of o e is = ap (λ x. is_some x) is

owned-kind : (e : Entry) → is_directory (Some (owned e)) ≡ is_directory (Some e)
owned-kind (Directory meta) = refl
owned-kind (File meta content) = refl

pub directory-no-file : (o : Option Entry) → is_directory o ≡ true → is_file o ≡ false
directory-no-file None h = refl
directory-no-file (Some (Directory meta)) h = refl
directory-no-file (Some (File meta content)) h = absurd (true≢false (sym h))

-- nothing clashes where both are directories
clash-directories : (there entry : Entry) → is_directory (Some there) ≡ true → is_directory (Some entry) ≡ true → clash_of (Some there) entry ≡ None
clash-directories (Directory meta) (Directory new) h i = refl
clash-directories (Directory meta) (File new content) h i = absurd (true≢false (sym i))
clash-directories (File meta content) entry h i = absurd (true≢false (sym h))

pub no-cause-by : (at : List (List ℕ) → Option Entry) (path : List (List ℕ)) (entry : Entry) → IsClean path → ((front : List (List ℕ)) → is_front front path ≡ true → is_file (at front) ≡ false)
    → ((there : Entry) → at path ≡ Some there → (is_directory (Some there) ≡ true) × (is_directory (Some entry) ≡ true)) → cause_at at path entry ≡ None
no-cause-by at path entry clean ways same =
    let few = clean.few in
    let deep : nat_lt most_components (length path) ≡ false = le-ltb most_components (length path) few in
    let free : is_blocked at path ≡ false = open-from_fronts at path ways in
    ap (λ b. cond b (Some F5) (cond (is_blocked at path) (Some F2) (clash_of (at path) entry))) deep ∙ ap (λ b. cond b (Some F2) (clash_of (at path) entry)) free ∙ by (at path) refl
  where
    by : (o : Option Entry) → at path ≡ o → clash_of (at path) entry ≡ None
    by None e = ap (λ o. clash_of o entry) e
    by (Some there) e = let both = same there e in ap (λ o. clash_of o entry) e ∙ clash-directories there entry both.0 both.1

module _ (rows : List Row) (flags : List Bool) (listing : IsListing rows) where
  pub placed-start : (tree : TreeMap) → tree ≡ empty_tree → (k : ℕ) → length rows ≤ k → IsPlaced rows flags k tree
  placed-start tree is k end = record {
    rows_there = λ n row from wanted. absurd (let l = get-within rows n row from.1 in let m = from.0 in omega arith);
    ways_there = λ n row front from wanted way. absurd (let l = get-within rows n row from.1 in let m = from.0 in omega arith);
    root_there = ap (λ t. is_some (get t [])) is ∙ ap (λ o. is_some o) (get-empty_tree []);
    comes_from = λ path entry e. by path entry (eq_by_cmp path_cmp path []) refl (sym (get-empty_tree path) ∙ ap (λ t. get t path) (sym is) ∙ e);
  }
    where
      by : (path : List (List ℕ)) (entry : Entry) (b : Bool) → eq_by_cmp path_cmp path [] ≡ b → cond (eq_by_cmp path_cmp path []) (Some (Directory directory_meta)) None ≡ Some entry → ComesFrom rows flags k path entry
      by path entry true same e = inr (sym (same_Some (Directory directory_meta) entry (sym (ap (λ b. cond b (Some (Directory directory_meta)) None) same) ∙ e)), inl (path_same path [] same))
      by path entry false same e = absurd (none-some entry (sym (ap (λ b. cond b (Some (Directory directory_meta)) None) same) ∙ e))

  after : (k n : ℕ) (row : Row) → From rows k n row → (n ≡ k) ⊎ From rows (k + 1) n row
  after k n row from = elim (at-or-after k n from.0) [ inl e ↦ inl e | inr l ↦ inr (l, from.1) ]

  lower : (k n : ℕ) (row : Row) → From rows (k + 1) n row → From rows k n row
  lower k n row from = (let l = from.0 in omega arith, from.1)

  row-is : (k n : ℕ) (row other : Row) → slice_get rows k ≡ Some row → n ≡ k → slice_get rows n ≡ Some other → row ≡ other
  row-is k n row other at e here = same_Some row other (sym at ∙ ap (λ i. slice_get rows i) (sym e) ∙ here)

  came : (k : ℕ) (path : List (List ℕ)) (entry : Entry) → ComesFrom rows flags (k + 1) path entry → ComesFrom rows flags k path entry
  came k path entry (inl (n, (row, (from, more)))) = inl (n, (row, (lower k n row from, more)))
  came k path entry (inr (is, inl root)) = inr (is, inl root)
  came k path entry (inr (is, inr (n, (row, (from, more))))) = inr (is, inr (n, (row, (lower k n row from, more))))

  module _ (k : ℕ) (row : Row) (here : slice_get rows k ≡ Some row) (tree : TreeMap) (placed : IsPlaced rows flags (k + 1) tree) where
    -- another row has another path
    other-path : (n : ℕ) (other : Row) → From rows (k + 1) n other → other.0 ≡ row.0 → ⊥
    other-path n other from same = let e = listing.once n k other row from.1 here same in let l = from.0 in omega arith

    -- what stands on the way to a row, or at its path, is a directory
    open-way : (front : List (List ℕ)) → is_front front row.0 ≡ true → (o : Option Entry) → get tree front ≡ o → is_file o ≡ false
    open-way front way None e = refl
    open-way front way (Some there) e = by (placed.comes_from front there e)
      where
        by : ComesFrom rows flags (k + 1) front there → is_file (Some there) ≡ false
        by (inl (n, (other, (from, (wanted, (same, is)))))) =
            directory-no-file (Some there) (ap (λ x. is_directory (Some x)) is ∙ owned-kind other.1 ∙ listing.folders other row (n, from.1) (k, here) (subst (λ (p : List (List ℕ)). is_front p row.0 ≡ true) (sym same) way))
        by (inr (is, more)) = ap (λ x. is_file (Some x)) is

    pub no-cause : IsClean row.0 → cause_at (get tree) row.0 (owned row.1) ≡ None
    no-cause clean = no-cause-by (get tree) row.0 (owned row.1) clean (λ front way. open-way front way (get tree front) refl) (λ there e. same there (placed.comes_from row.0 there e))
      where
        same : (there : Entry) → ComesFrom rows flags (k + 1) row.0 there → (is_directory (Some there) ≡ true) × (is_directory (Some (owned row.1)) ≡ true)
        same there (inl (n, (other, (from, (wanted, (path, is)))))) = absurd (other-path n other from path)
        same there (inr (is, inl root)) = (ap (λ x. is_directory (Some x)) is, owned-kind row.1 ∙ listing.root row (k, here) root)
        same there (inr (is, inr (n, (other, (from, (wanted, way)))))) = (ap (λ x. is_directory (Some x)) is, owned-kind row.1 ∙ listing.folders row other (k, here) (n, from.1) way)

    pub placed-skip : (Wanted flags k row → ⊥) → IsPlaced rows flags k tree
    placed-skip off = record {
      rows_there = λ n other from wanted. elim (after k n other from) [ inl e ↦ absurd (unwanted n other e from.1 wanted) | inr more ↦ placed.rows_there n other more wanted ];
      ways_there = λ n other front from wanted way. elim (after k n other from) [ inl e ↦ absurd (unwanted n other e from.1 wanted) | inr more ↦ placed.ways_there n other front more wanted way ];
      root_there = placed.root_there;
      comes_from = λ path entry e. came k path entry (placed.comes_from path entry e);
    }
      where
        unwanted : (n : ℕ) (other : Row) → n ≡ k → slice_get rows n ≡ Some other → Wanted flags n other → ⊥
        unwanted n other e at wanted = off (subst (λ (i : ℕ). Wanted flags i row) e (subst (λ (r : Row). Wanted flags n r) (sym (row-is k n row other here e at)) wanted))

    pub placed-more : Wanted flags k row → (new : TreeMap) → ((q : List (List ℕ)) → get new q ≡ planted (get tree) row.0 directory_meta (owned row.1) q) → IsPlaced rows flags k new
    placed-more wants new at = record {
      rows_there = λ n other from wanted. elim (after k n other from) [
        | inl e ↦ subst (λ (r : Row). get new r.0 ≡ Some (owned r.1)) (row-is k n row other here e from.1) (at row.0 ∙ planted-here (get tree) row.0 directory_meta (owned row.1))
        | inr more ↦ at other.0 ∙ planted-kept (get tree) row.0 directory_meta (owned row.1) other.0 (owned other.1) (other-path n other more) (placed.rows_there n other more wanted)
      ];
      ways_there = λ n other front from wanted way. elim (after k n other from) [
        | inl e ↦ some-way front (subst (λ (r : Row). is_front front r.0 ≡ true) (sym (row-is k n row other here e from.1)) way)
        | inr more ↦ some-kept front (get tree front) refl (placed.ways_there n other front more wanted way)
      ];
      root_there = some-kept [] (get tree []) refl placed.root_there;
      comes_from = λ path entry e. elim (same-or-not path row.0) [
        | inl same ↦ inl (k, (row, ((omega arith, here), (wants, (sym same, sym (same_Some (owned row.1) entry (sym (planted-here (get tree) row.0 directory_meta (owned row.1)) ∙ sym (at row.0) ∙ ap (λ q. get new q) (sym same) ∙ e)))))))
        | inr other ↦ from-old path entry (get tree path) refl (is_front path row.0) refl (sym (planted-other (get tree) row.0 directory_meta (owned row.1) path other) ∙ sym (at path) ∙ e)
      ];
    }
      where
        some-planted : (q : List (List ℕ)) → (o : Option Entry) → get tree q ≡ o → (b : Bool) → is_front q row.0 ≡ b → (is_some o ≡ true) ⊎ (b ≡ true) → is_some (get new q) ≡ true
        some-planted q o e b f either = elim (same-or-not q row.0) [
          | inl same ↦ ap (λ x. is_some x) (ap (λ p. get new p) same ∙ at row.0 ∙ planted-here (get tree) row.0 directory_meta (owned row.1))
          | inr other ↦ ap (λ x. is_some x) (at q ∙ planted-other (get tree) row.0 directory_meta (owned row.1) q other ∙ (λ i. option_or (e i) (cond (f i) (Some (Directory directory_meta)) None))) ∙ or-some o b either
        ]
          where
            or-some : (o : Option Entry) (b : Bool) → (is_some o ≡ true) ⊎ (b ≡ true) → is_some (option_or o (cond b (Some (Directory directory_meta)) None)) ≡ true
            or-some (Some x) b h = refl
            or-some None true h = refl
            or-some None false (inl h) = h
            or-some None false (inr h) = h

        some-way : (front : List (List ℕ)) → is_front front row.0 ≡ true → is_some (get new front) ≡ true
        some-way front way = some-planted front (get tree front) refl (is_front front row.0) refl (inr way)

        some-kept : (q : List (List ℕ)) (o : Option Entry) → get tree q ≡ o → is_some o ≡ true → is_some (get new q) ≡ true
        some-kept q o e h = some-planted q o e (is_front q row.0) refl (inl h)

        from-old : (path : List (List ℕ)) (entry : Entry) (o : Option Entry) → get tree path ≡ o → (b : Bool) → is_front path row.0 ≡ b → option_or (get tree path) (cond (is_front path row.0) (Some (Directory directory_meta)) None) ≡ Some entry → ComesFrom rows flags k path entry
        from-old path entry (Some there) e b f h = came k path entry (placed.comes_from path entry (e ∙ sym (ap (λ o. option_or o (cond (is_front path row.0) (Some (Directory directory_meta)) None)) e) ∙ h))
        from-old path entry None e true f h =
            inr (sym (same_Some (Directory directory_meta) entry (sym (λ i. option_or (e i) (cond (f i) (Some (Directory directory_meta)) None)) ∙ h)), inr (k, (row, ((omega arith, here), (wants, f)))))
        from-old path entry None e false f h = absurd (none-some entry (sym (λ i. option_or (e i) (cond (f i) (Some (Directory directory_meta)) None)) ∙ h))

-- ---- the rows that are wanted, gathered from the last to the first

module _ (rows : List Row) (flags : List Bool) (listing : IsListing rows) where
  pub wanted-start : (wanted : List Row) → wanted ≡ [] → (k : ℕ) → length rows ≤ k → AreWanted rows flags k (reverse wanted)
  wanted-start wanted none k end =
      subst (λ (l : List Row). AreWanted rows flags k (reverse l)) (sym none) (record { placeable = tt; placed = placed-start rows flags listing empty_tree refl k end })

  module _ (k : ℕ) (row : Row) (here : slice_get rows k ≡ Some row) (wanted : List Row) (old : AreWanted rows flags (k + 1) (reverse wanted)) where
    pub wanted-skip : (Wanted flags k row → ⊥) → AreWanted rows flags k (reverse wanted)
    wanted-skip off = record { placeable = old.placeable; placed = placed-skip rows flags listing k row here (tree_of (reverse wanted)) old.placed off }

    pub wanted-more : Wanted flags k row → (entry : Entry) → entry ≡ owned row.1 → (new : List Row) → new ≡ wanted ++ (row.0, entry) ∷ [] → AreWanted rows flags k (reverse new)
    wanted-more wants entry is new pushed = subst (AreWanted rows flags k) (sym whole) (record {
      placeable = (no-cause rows flags listing k row here (tree_of (reverse wanted)) old.placed, old.placeable);
      placed = placed-more rows flags listing k row here (tree_of (reverse wanted)) old.placed wants (tree_of ((row.0, owned row.1) ∷ reverse wanted)) (get-placed directory_meta (tree_of (reverse wanted)) row.0 (owned row.1));
    })
      where
        whole : reverse new ≡ (row.0, owned row.1) ∷ reverse wanted
        whole = ap reverse pushed ∙ reverse-append wanted ((row.0, entry) ∷ []) ∙ ap (λ (x : Entry). (row.0, x) ∷ reverse wanted) is

pub wanted-end : (rows : List Row) (flags : List Bool) (k : ℕ) (wanted turned : List Row) → k ≡ 0 → turned ≡ reverse wanted → AreWanted rows flags k (reverse wanted) → AreWanted rows flags 0 turned
wanted-end rows flags k wanted turned none is h = subst (λ (n : ℕ). AreWanted rows flags n turned) none (subst (AreWanted rows flags k) (sym is) h)

pub wanted-placed : (rows : List Row) (flags : List Bool) (wanted : List Row) (tree : TreeMap) → tree ≡ tree_of wanted → AreWanted rows flags 0 wanted → IsPlaced rows flags 0 tree
wanted-placed rows flags wanted tree is h = subst (IsPlaced rows flags 0) (sym is) h.placed
