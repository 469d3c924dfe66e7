-- The directories that aren't wanted themselves, and their modes.
use Rattle.std.proofs.Common.{◌≡◌, ◌∙◌, ◌+◌, ◌≤◌, ◌⊎◌, ℕ, Bool, true, false, List, [], ◌∷◌, ◌++◌, Option, Some, None, sym, ap, refl, subst, inl, inr, true≢false, arith, length, cond}
use Rattle.std.specs.Option.{option_or, is_some}
use Rattle.std.specs.Prelude.{slice_get}
use Rattle.std.specs.FinMap.{get}
use Rattle.std.proofs.lemmas.Option.{same_Some, none-some}
use Rattle.paths.specs.Path.{IsClean}
use Rattle.paths.specs.Fronts.{is_front}
use Rattle.trees.specs.declared.entry.Entry.{Entry}
use Rattle.trees.specs.declared.entry.Entry.TheVariants.{Directory}
use Rattle.trees.specs.declared.meta.Meta.{Meta}
use Rattle.trees.specs.TreeMap.{TreeMap, IsTree, directory_meta, is_directory}
use Rattle.trees.specs.Put.{planted, cause_at}
use Rattle.trees.specs.Row.{Row}
use Rattle.contexts.specs.Context.{IsListing, owned_meta}
use Rattle.contexts.specs.PrivatePlaces.{Wanted, From, AreFolders, HasModes, AreApart}
use Rattle.contexts.proofs.Rows.{get-within, get-snoc, get-before, get-last, at-or-after, same-or-not, planted-here, planted-other}
use Rattle.contexts.proofs.Placing.{no-cause-by, directory-no-file}

abbrev Folder : Type 0
Folder = List (List ℕ) × Meta

module _ (rows : List Row) (flags : List Bool) (listing : IsListing rows) where
  pub folders-start : (folders : List Folder) → folders ≡ [] → (k : ℕ) → length rows ≤ k → AreFolders rows flags k folders
  folders-start folders is k end = record {
    once = λ i j folder other at. absurd (none-some folder (ap (λ l. slice_get l i) (sym is) ∙ at));
    there = λ n row meta from. absurd (let l = get-within rows n row from.1 in let m = from.0 in omega arith);
    of = λ i folder at. absurd (none-some folder (ap (λ l. slice_get l i) (sym is) ∙ at));
  }

  module _ (k : ℕ) (row : Row) (here : slice_get rows k ≡ Some row) (folders : List Folder) (old : AreFolders rows flags (k + 1) folders) where
    row-there : (n : ℕ) (other : Row) → n ≡ k → slice_get rows n ≡ Some other → row ≡ other
    row-there n other e at = same_Some row other (sym here ∙ ap (λ i. slice_get rows i) (sym e) ∙ at)

    lowered : (i : ℕ) (folder : Folder) → slice_get folders i ≡ Some folder → (n : ℕ) × ((other : Row) × (From rows k n other × ((Wanted flags n other → ⊥) × ((other.0 ≡ folder.0) × (other.1 ≡ Directory folder.1)))))
    lowered i folder at = let w = old.of i folder at in (w.0, (w.1.0, ((let l = w.1.1.0.0 in omega arith, w.1.1.0.1), w.1.1.1)))

    -- a row that is wanted, or that is a file, adds none
    pub folders-skip : ((meta : Meta) → (Wanted flags k row → ⊥) → row.1 ≡ Directory meta → ⊥) → AreFolders rows flags k folders
    folders-skip none = record {
      once = old.once;
      there = λ n other meta from off is. elim (at-or-after k n from.0) [
        | inl e ↦ absurd (none meta (λ w. off (subst (λ (r : Row). Wanted flags n r) (row-there n other e from.1) (subst (λ (m : ℕ). Wanted flags m row) (sym e) w))) (ap (λ (r : Row). r.1) (row-there n other e from.1) ∙ is))
        | inr l ↦ old.there n other meta (l, from.1) off is
      ];
      of = lowered;
    }

    pub folders-more : (meta : Meta) → (Wanted flags k row → ⊥) → row.1 ≡ Directory meta → (new : List Folder) → new ≡ folders ++ (row.0, meta) ∷ [] → AreFolders rows flags k new
    folders-more meta off is new added = record {
      once = λ i j folder other at here same. once i j folder other (get-snoc folders (row.0, meta) folder i (got i folder at)) (get-snoc folders (row.0, meta) other j (got j other here)) same;
      there = λ n other its from unwanted kind. elim (at-or-after k n from.0) [
        | inl e ↦ (length folders, ap (λ l. slice_get l (length folders)) added ∙ get-last folders (row.0, meta) ∙ ap (λ (r : Row). Some (r.0, meta)) (row-there n other e from.1) ∙ ap (λ m. Some (other.0, m)) (same-meta meta its (sym is ∙ ap (λ (r : Row). r.1) (row-there n other e from.1) ∙ kind)))
        | inr l ↦ (let w = old.there n other its (l, from.1) unwanted kind in (w.0, ap (λ l. slice_get l w.0) added ∙ get-before folders ((row.0, meta) ∷ []) w.0 (other.0, its) w.1))
      ];
      of = λ i folder at. elim (get-snoc folders (row.0, meta) folder i (got i folder at)) [
        | inl before ↦ lowered i folder before
        | inr w ↦ (k, (row, ((omega arith, here), (off, (ap (λ (f : Folder). f.0) w.1, is ∙ ap (λ (f : Folder). Directory f.1) w.1)))))
      ];
    }
      where
        got : (i : ℕ) (folder : Folder) → slice_get new i ≡ Some folder → slice_get (folders ++ (row.0, meta) ∷ []) i ≡ Some folder
        got i folder at = ap (λ l. slice_get l i) (sym added) ∙ at

        same-meta : (a b : Meta) → Directory a ≡ Directory b → a ≡ b
        same-meta a b e = cc

        old-path : (i : ℕ) (folder : Folder) → slice_get folders i ≡ Some folder → folder.0 ≡ row.0 → ⊥
        old-path i folder at same =
            let w = old.of i folder at in let e = listing.once w.0 k w.1.0 row w.1.1.0.1 here (w.1.1.1.1.0 ∙ same) in let l = w.1.1.0.0 in omega arith

        once : (i j : ℕ) (folder other : Folder) → (slice_get folders i ≡ Some folder) ⊎ ((i ≡ length folders) × ((row.0, meta) ≡ folder)) → (slice_get folders j ≡ Some other) ⊎ ((j ≡ length folders) × ((row.0, meta) ≡ other)) → folder.0 ≡ other.0 → i ≡ j
        once i j folder other (inl a) (inl b) same = old.once i j folder other a b same
        once i j folder other (inl a) (inr b) same = absurd (old-path i folder a (same ∙ sym (ap (λ (f : Folder). f.0) b.1)))
        once i j folder other (inr a) (inl b) same = absurd (old-path j other b (sym same ∙ sym (ap (λ (f : Folder). f.0) a.1)))
        once i j folder other (inr a) (inr b) same = a.0 ∙ sym b.0

-- ---- modes

module _ (folders : List Folder) (before : TreeMap) (apart : AreApart folders before) where
  pub modes-start : (tree : TreeMap) → tree ≡ before → (k : ℕ) → length folders ≤ k → HasModes folders k before tree
  modes-start tree is k end = record {
    set = λ i folder l at. absurd (let m = get-within folders i folder at in omega arith);
    rest = λ path none. ap (λ t. get t path) is;
    same = λ path. ap (λ t. is_some (get t path)) is;
    kinds = λ path. ap (λ t. is_directory (get t path)) is;
  }

  module _ (k : ℕ) (folder : Folder) (here : slice_get folders k ≡ Some folder) (tree : TreeMap) (old : HasModes folders (k + 1) before tree) where
    at-k : (i : ℕ) (other : Folder) → i ≡ k → slice_get folders i ≡ Some other → folder ≡ other
    at-k i other e at = same_Some folder other (sym here ∙ ap (λ n. slice_get folders n) (sym e) ∙ at)

    pub modes-skip : is_some (get tree folder.0) ≡ false → HasModes folders k before tree
    modes-skip none = record {
      set = λ i other l at some. elim (at-or-after k i l) [
        | inl e ↦ absurd (true≢false (sym some ∙ sym (old.same other.0) ∙ ap (λ (f : Folder). is_some (get tree f.0)) (sym (at-k i other e at)) ∙ none))
        | inr m ↦ old.set i other m at some
      ];
      rest = λ path off. old.rest path (λ i other l at same. off i other (omega arith) at same);
      same = old.same;
      kinds = old.kinds;
    }

    pub folder-stands : is_some (get tree folder.0) ≡ true → is_directory (get tree folder.0) ≡ true
    folder-stands some = old.kinds folder.0 ∙ apart.kinds k folder here (sym (old.same folder.0) ∙ some)

    pub modes-no-cause : IsTree tree → IsClean folder.0 → is_some (get tree folder.0) ≡ true → cause_at (get tree) folder.0 (Directory (owned_meta folder.1)) ≡ None
    modes-no-cause whole clean some =
        no-cause-by (get tree) folder.0 (Directory (owned_meta folder.1)) clean (λ front way. directory-no-file (get tree front) (whole.parents front folder.0 way some))
        (λ there e. (ap (λ o. is_directory o) (sym e) ∙ folder-stands some, refl))

    pub modes-more : IsTree tree → is_some (get tree folder.0) ≡ true → (new : TreeMap) → ((q : List (List ℕ)) → get new q ≡ planted (get tree) folder.0 directory_meta (Directory (owned_meta folder.1)) q) → HasModes folders k before new
    modes-more whole some new at = record {
      set = λ i other l is there. elim (at-or-after k i l) [
        | inl e ↦ subst (λ (f : Folder). get new f.0 ≡ Some (Directory (owned_meta f.1))) (at-k i other e is) here-set
        | inr m ↦ elsewhere other.0 (λ same. (let e = apart.once i k other folder is here same in omega arith)) ∙ old.set i other m is there
      ];
      rest = λ path off. elsewhere path (λ same. off k folder (omega arith) here (sym same)) ∙ old.rest path (λ i other l is same. off i other (omega arith) is same);
      same = λ path. elim (same-or-not path folder.0) [
        | inl e ↦ ap (λ p. is_some (get new p)) e ∙ ap (λ o. is_some o) here-set ∙ sym some ∙ ap (λ p. is_some (get tree p)) (sym e) ∙ old.same path
        | inr other ↦ ap (λ o. is_some o) (elsewhere path other) ∙ old.same path
      ];
      kinds = λ path. elim (same-or-not path folder.0) [
        | inl e ↦ ap (λ p. is_directory (get new p)) e ∙ ap (λ o. is_directory o) here-set ∙ sym (folder-stands some) ∙ ap (λ p. is_directory (get tree p)) (sym e) ∙ old.kinds path
        | inr other ↦ ap (λ o. is_directory o) (elsewhere path other) ∙ old.kinds path
      ];
    }
      where
        here-set : get new folder.0 ≡ Some (Directory (owned_meta folder.1))
        here-set = at folder.0 ∙ planted-here (get tree) folder.0 directory_meta (Directory (owned_meta folder.1))

        as-was : (q : List (List ℕ)) (o : Option Entry) → get tree q ≡ o → (b : Bool) → is_front q folder.0 ≡ b → option_or (get tree q) (cond (is_front q folder.0) (Some (Directory directory_meta)) None) ≡ get tree q
        as-was q (Some there) e b f = ap (λ o. option_or o (cond (is_front q folder.0) (Some (Directory directory_meta)) None)) e ∙ sym e
        as-was q None e true f = absurd (true≢false (sym (whole.parents q folder.0 f some) ∙ ap (λ o. is_directory o) e))
        as-was q None e false f = (λ i. option_or (e i) (cond (f i) (Some (Directory directory_meta)) None)) ∙ sym e

        elsewhere : (q : List (List ℕ)) → (q ≡ folder.0 → ⊥) → get new q ≡ get tree q
        elsewhere q other = at q ∙ planted-other (get tree) folder.0 directory_meta (Directory (owned_meta folder.1)) q other ∙ as-was q (get tree q) refl (is_front q folder.0) refl
