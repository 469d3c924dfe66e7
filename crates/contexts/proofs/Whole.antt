-- The tree of the wanted rows, with its modes, is the context.
use Rattle.std.proofs.Common.{◌≡◌, ◌∙◌, ◌⊎◌, ◌↔◌, ℕ, Bool, true, false, List, [], Option, Some, None, IsTrue, sym, ap, refl, subst, inl, inr, true≢false, arith, get_or, ◌∷◌, suc, zero}
use Rattle.std.specs.List.{AllZip}
use Rattle.std.specs.Option.{is_some}
use Rattle.std.specs.Prelude.{slice_get}
use Rattle.std.specs.FinMap.{get}
use Rattle.std.proofs.lemmas.Option.{same_Some, none-some}
use Rattle.paths.specs.Fronts.{is_front}
use Rattle.trees.specs.declared.entry.Entry.{Entry}
use Rattle.trees.specs.declared.entry.Entry.TheVariants.{Directory, File}
use Rattle.trees.specs.declared.meta.Meta.{Meta}
use Rattle.trees.specs.TreeMap.{TreeMap, directory_meta, is_directory}
use Rattle.ignorefile.specs.declared.line.Line.{Line}
use Rattle.ignorefile.specs.Kept.{Kept}
use Rattle.trees.specs.Row.{Row, Has}
use Rattle.contexts.specs.Context.{IsListing, Stays, IsFolder, IsContext, owned, owned_meta}
use Rattle.contexts.specs.PrivatePlaces.{Wanted, From, ComesFrom, IsPlaced, AreFolders, HasModes, AreApart}
use Rattle.contexts.proofs.Rows.{zip-at, same-or-not}

some-entry : (o : Option Entry) → is_some o ≡ true → (entry : Entry) × (o ≡ Some entry)
some-entry None h = absurd (true≢false (sym h))
some-entry (Some entry) h = (entry, refl)

-- a path is listed or it isn't
pub listed-or-not : (xs : List Row) (path : List (List ℕ)) → ((n : ℕ) × ((row : Row) × ((slice_get xs n ≡ Some row) × (row.0 ≡ path)))) ⊎ ((n : ℕ) (row : Row) → slice_get xs n ≡ Some row → row.0 ≡ path → ⊥)
listed-or-not [] path = inr (λ n row at same. none-some row at)
listed-or-not (x ∷ xs) path = elim (same-or-not x.0 path) [
  | inl same ↦ inl (0, (x, (refl, same)))
  | inr other ↦ elim (listed-or-not xs path) [ inl w ↦ inl (suc w.0, w.1) | inr none ↦ inr (λ n row at same. later other none n row at same) ]
]
  where
    later : (x.0 ≡ path → ⊥) → ((n : ℕ) (row : Row) → slice_get xs n ≡ Some row → row.0 ≡ path → ⊥) → (n : ℕ) (row : Row) → slice_get (x ∷ xs) n ≡ Some row → row.0 ≡ path → ⊥
    later other none zero row at same = other (ap (λ (r : Row). r.0) (same_Some x row at) ∙ same)
    later other none (suc n) row at same = none n row at same

module _ (rows : List Row) (flags : List Bool) (listing : IsListing rows) (before : TreeMap) (placed : IsPlaced rows flags 0 before) (folders : List (List (List ℕ) × Meta)) (others : AreFolders rows flags 0 folders) where
  pub apart : AreApart folders before
  apart = record {
    once = others.once;
    kinds = λ i folder at some. by folder (others.of i folder at) (get before folder.0) refl some;
  }
    where
      row-same : (m n : ℕ) (other row : Row) → slice_get rows m ≡ Some other → slice_get rows n ≡ Some row → other.0 ≡ row.0 → other ≡ row
      row-same m n other row at here path = same_Some other row (sym at ∙ ap (λ i. slice_get rows i) (listing.once m n other row at here path) ∙ here)

      by : (folder : List (List ℕ) × Meta) → (n : ℕ) × ((row : Row) × (From rows 0 n row × ((Wanted flags n row → ⊥) × ((row.0 ≡ folder.0) × (row.1 ≡ Directory folder.1))))) → (o : Option Entry) → get before folder.0 ≡ o → is_some (get before folder.0) ≡ true → is_directory (get before folder.0) ≡ true
      by folder w None e some = absurd (true≢false (sym some ∙ ap (λ o. is_some o) e))
      by folder (n, (row, (from, (off, (same, kind))))) (Some there) e some = from-where (placed.comes_from folder.0 there e)
        where
          from-where : ComesFrom rows flags 0 folder.0 there → is_directory (get before folder.0) ≡ true
          from-where (inl (m, (other, (at, (wanted, (path, is)))))) =
              absurd (off (subst (λ (i : ℕ). Wanted flags i row) (listing.once m n other row at.1 from.1 (path ∙ sym same)) (subst (λ (r : Row). Wanted flags m r) (row-same m n other row at.1 from.1 (path ∙ sym same)) wanted)))
          from-where (inr (is, more)) = ap (λ o. is_directory o) e ∙ ap (λ x. is_directory (Some x)) is

  module _ (lines : List Line) (all : AllZip (λ row flag. IsTrue flag ↔ Kept lines row.0) rows flags) (tree : TreeMap) (modes : HasModes folders 0 before tree) where
    same-row : (m n : ℕ) (row other : Row) → slice_get rows m ≡ Some row → slice_get rows n ≡ Some other → row.0 ≡ other.0 → row ≡ other
    same-row m n row other at here path = same_Some row other (sym at ∙ ap (λ i. slice_get rows i) (listing.once m n row other at here path) ∙ here)

    wants : (n : ℕ) (row : Row) → slice_get rows n ≡ Some row → Stays lines row → Wanted flags n row
    wants n row at (inl root) = inl root
    wants n row at (inr kept) = inr ((zip-at (λ row flag. IsTrue flag ↔ Kept lines row.0) rows flags n row true all at).1 kept)

    stays : (n : ℕ) (row : Row) → slice_get rows n ≡ Some row → Wanted flags n row → Stays lines row
    stays n row at (inl root) = inl root
    stays n row at (inr flag) = inr ((zip-at (λ row flag. IsTrue flag ↔ Kept lines row.0) rows flags n row true all at).0 flag)

    -- what stands where no directory gets a mode is as it was
    no-folder : (n : ℕ) (row : Row) → slice_get rows n ≡ Some row → Wanted flags n row → get tree row.0 ≡ get before row.0
    no-folder n row at wanted = modes.rest row.0 (λ i folder l is same.
        (let w = others.of i folder is in
        w.1.1.1.0 (subst (λ (r : Row). Wanted flags w.0 r) (same-row n w.0 row w.1.0 at w.1.1.0.1 (sym same ∙ sym w.1.1.1.1.0)) (subst (λ (i : ℕ). Wanted flags i row) (listing.once n w.0 row w.1.0 at w.1.1.0.1 (sym same ∙ sym w.1.1.1.1.0)) wanted))))

    -- whether a row is wanted
    decide : (n : ℕ) (row : Row) → (Wanted flags n row) ⊎ (Wanted flags n row → ⊥)
    decide n row = by (get_or flags n true) refl (same-or-not row.0 [])
      where
        by : (b : Bool) → get_or flags n true ≡ b → ((row.0 ≡ []) ⊎ (row.0 ≡ [] → ⊥)) → (Wanted flags n row) ⊎ (Wanted flags n row → ⊥)
        by true e root = inl (inr e)
        by false e (inl root) = inl (inl root)
        by false e (inr other) = inr (λ w. elim w [ inl root ↦ other root | inr flag ↦ true≢false (sym flag ∙ e) ])

    -- the directory at a path that others lie under
    folder-at : (path : List (List ℕ)) (entry : Entry) → get before path ≡ Some entry → (found : Entry) × ((get tree path ≡ Some found) × IsFolder rows path found)
    folder-at path entry e = elim (listed-or-not rows path) [
      | inl w ↦ listed w.0 w.1.0 w.1.1.0 w.1.1.1 (decide w.0 w.1.0) (placed.comes_from path entry e)
      | inr none ↦ (
        entry,
        (
          modes.rest path (λ i folder l is same. (let v = others.of i folder is in none v.0 v.1.0 v.1.1.0.1 (v.1.1.1.1.0 ∙ same))) ∙ e,
          inr ((λ row has same. none has.0 row has.1 same), unlisted none (placed.comes_from path entry e)),
        ),
      )
    ]
      where
        unlisted : ((n : ℕ) (row : Row) → slice_get rows n ≡ Some row → row.0 ≡ path → ⊥) → ComesFrom rows flags 0 path entry → entry ≡ Directory directory_meta
        unlisted none (inl (n, (row, (from, (wanted, (same, is)))))) = absurd (none n row from.1 same)
        unlisted none (inr (is, more)) = is

        with-mode : (n : ℕ) (row : Row) → slice_get rows n ≡ Some row → row.0 ≡ path → (Wanted flags n row → ⊥) → (there : Entry) → row.1 ≡ there → is_directory (Some there) ≡ true → (found : Entry) × ((get tree path ≡ Some found) × IsFolder rows path found)
        with-mode n row at same off (File meta content) kind_is h = absurd (true≢false (sym h))
        with-mode n row at same off (Directory meta) kind_is h =
            let w = others.there n row meta (omega arith, at) off kind_is in
            let set = modes.set w.0 (row.0, meta) (omega arith) w.1 (ap (λ p. is_some (get before p)) same ∙ ap (λ o. is_some o) e) in
            (Directory (owned_meta meta), (ap (λ p. get tree p) (sym same) ∙ set, inl (row, ((n, at), (same, sym (ap (λ x. owned x) kind_is))))))

        listed : (n : ℕ) (row : Row) → slice_get rows n ≡ Some row → row.0 ≡ path → (Wanted flags n row) ⊎ (Wanted flags n row → ⊥) → ComesFrom rows flags 0 path entry → (found : Entry) × ((get tree path ≡ Some found) × IsFolder rows path found)
        listed n row at same (inl wanted) came =
            (owned row.1, (ap (λ p. get tree p) (sym same) ∙ no-folder n row at wanted ∙ placed.rows_there n row (omega arith, at) wanted, inl (row, ((n, at), (same, refl)))))
        listed n row at same (inr off) (inl (m, (other, (from, (wanted, (path_is, is)))))) =
            absurd (off (subst (λ (i : ℕ). Wanted flags i row) (listing.once m n other row from.1 at (path_is ∙ sym same)) (subst (λ (r : Row). Wanted flags m r) (same-row m n other row from.1 at (path_is ∙ sym same)) wanted)))
        listed n row at same (inr off) (inr (is, inl root)) = with-mode n row at same off row.1 refl (listing.root row (n, at) (same ∙ root))
        listed n row at same (inr off) (inr (is, inr (m, (other, (from, (wanted, way)))))) =
            with-mode n row at same off row.1 refl (listing.folders row other (n, at) (m, from.1) (subst (λ (p : List (List ℕ)). is_front p other.0 ≡ true) (sym same) way))

    pub is-context : IsContext rows lines tree
    is-context = record {
      stays = λ row has keeps. no-folder has.0 row has.1 (wants has.0 row has.1 keeps) ∙ placed.rows_there has.0 row (omega arith, has.1) (wants has.0 row has.1 keeps);
      ways = λ row front has keeps way. folder-any front (placed.ways_there has.0 row front (omega arith, has.1) (wants has.0 row has.1 keeps) way);
      root = folder-any [] placed.root_there;
      only = λ path some. (let w = some-entry (get before path) (sym (modes.same path) ∙ some) in from-where path w.0 (placed.comes_from path w.0 w.1));
    }
      where
        folder-any : (path : List (List ℕ)) → is_some (get before path) ≡ true → (found : Entry) × ((get tree path ≡ Some found) × IsFolder rows path found)
        folder-any path some = let w = some-entry (get before path) some in folder-at path w.0 w.1

        from-where : (path : List (List ℕ)) (entry : Entry) → ComesFrom rows flags 0 path entry → (path ≡ []) ⊎ ((row : Row) × (Has rows row × (Stays lines row × ((row.0 ≡ path) ⊎ (is_front path row.0 ≡ true)))))
        from-where path entry (inl (n, (row, (from, (wanted, (same, is)))))) = inr (row, ((n, from.1), (stays n row from.1 wanted, inl same)))
        from-where path entry (inr (is, inl root)) = inl root
        from-where path entry (inr (is, inr (n, (row, (from, (wanted, way)))))) = inr (row, ((n, from.1), (stays n row from.1 wanted, inr way)))
