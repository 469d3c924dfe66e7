-- What is found for a copy, path by path: BuildKit makes of it the tree that COPY makes.
use Rattle.std.specs.Prelude.{◌≡◌, ◌-◌, Bool, true, false, ◌||◌, cond, T, Option, Some, None, List, [], ◌∷◌, ◌++◌, ◌⊎◌, is_some, drop, not, length}
use Rattle.std.proofs.Common.{sym, ap, refl, ◌∙◌, subst, true≢false, inl, inr, append-nil}
use Rattle.std.proofs.lemmas.Bool.{le-ltb}
use Rattle.std.specs.List.{list_any}
use Rattle.std.specs.Option.{option_or, option_and_then}
use Rattle.std.specs.Ordering.{eq_by_cmp}
use Rattle.std.specs.FinMap.{get, entries, entries_sorted, find}
use Rattle.std.specs.FinMap.Entries.{is_sorted, below_all}
use Rattle.paths.specs.Order.{path_cmp}
use Rattle.paths.specs.Path.{IsClean}
use Rattle.paths.specs.Fronts.{is_front}
use Rattle.paths.proofs.FrontLaws.{path_same, both_second}
use Rattle.trees.specs.declared.meta.Meta.{Meta}
use Rattle.trees.specs.declared.entry.Entry.{Entry}
use Rattle.trees.specs.declared.entry.Entry.TheVariants.{Directory, File}
use Rattle.trees.specs.declared.copy.CopyOptions.{CopyOptions}
use Rattle.trees.specs.declared.cause.Cause.TheVariants.{F2}
use Rattle.trees.specs.TreeMap.{TreeMap, IsTree, is_directory, is_file, is_blocked}
use Rattle.trees.specs.Put.{cause_at, clash_of, placed}
use Rattle.trees.specs.Make.{make_cause, with_directory}
use Rattle.trees.specs.Subtree.{map_below}
use Rattle.trees.specs.Copy.{parent_meta, placed_entry, placements, match_changes, path_changes, paths_changes, file_path, change_cause, is_absent}
use Rattle.trees.specs.PrivateCopy.{with_change, IsNamed}
use Rattle.trees.proofs.CopyLaws.{with_directory-new, with_directory-kept}
use Rattle.trees.proofs.BranchLaws.{own-first}
use Rattle.trees.proofs.SubtreeLaws.{own-below, below-IsTree, entries_below-IsBelow}
use Rattle.trees.proofs.CopyTrees.{named-match, stepped-IsTree}
use Rattle.trees.proofs.TreeLaws.{same_tree, free-from_cause, placed-IsTree}
use Rattle.trees.proofs.WayLaws.{open-front, open-up}
use Rattle.fileactions.specs.Copying.{with_entries, with_found, first_folder, with_path, with_paths}
use Rattle.fileactions.proofs.Steps.{Path, Lead, split, lead-tree, free-placement, is_on, either-of, on-itself, on-trans, get-made, no-file-more, still-open, folder-made, folder-there, folder-stays}
use Rattle.fileactions.proofs.Paths.{setting_of, last-of, drop-last, Goes, file-copied, climbed-on, merged}
use Rattle.fileactions.proofs.Rows.{Rows, AreReady, ready-from, entries-copied, placed-folder}

-- ---- a folder is made

clear : (a b : Bool) → cond (a || b) (Some F2) None ≡ None → (a ≡ false) × (b ≡ false)
clear true b e = absurd (true≢false (ap is_some e))
clear false true e = absurd (true≢false (ap is_some e))
clear false false e = (refl, refl)

-- what keeps no folder from being made keeps none on the way to it
free-on : (at : Path → Option Entry) (f d : Path) → is_on f d ≡ true → make_cause at d ≡ None → make_cause at f ≡ None
free-on at f d on none = by (either-of (is_front f d) (eq_by_cmp path_cmp f d) on) (clear (is_blocked at d) (is_file (at d)) none)
  where
    by : (is_front f d ≡ true) ⊎ (eq_by_cmp path_cmp f d ≡ true) → (is_blocked at d ≡ false) × (is_file (at d) ≡ false) → make_cause at f ≡ None
    by (inl g) free = λ i. cond (open-up at f d free.0 g i || open-front at f d free.0 g i) (Some F2) None
    by (inr t) free = ap (make_cause at) (path_same f d t) ∙ none

first-on : (slash : Bool) (dest : Path) → is_on (first_folder slash dest) dest ≡ true
first-on true dest = on-itself dest
first-on false dest = climbed-on dest

-- a folder after one on the way to it
twice : (meta : Meta) (tree : TreeMap) (f d : Path) → is_on f d ≡ true → with_directory meta (with_directory meta tree f) d ≡ with_directory meta tree d
twice meta tree f d on = same_tree _ _ (λ x.
    get-made meta (with_directory meta tree f) d x
    ∙ (λ i. option_or (get-made meta tree f x i) (cond (is_on x d) (Some (Directory meta)) None))
    ∙ merged (is_on x f) (is_on x d) (get tree x) (Directory meta) (λ h. on-trans x f d h on)
    ∙ sym (get-made meta tree d x))

-- a tree in which a folder was made is a tree
pub made-tree : (meta : Meta) (tree : TreeMap) (path : Path) → IsTree tree → IsClean path → make_cause (get tree) path ≡ None → IsTree (with_directory meta tree path)
made-tree meta tree path is clean none = by (get tree path) refl (clear (is_blocked (get tree) path) (is_file (get tree path)) none)
  where
    by : (o : Option Entry) → get tree path ≡ o → (is_blocked (get tree) path ≡ false) × (is_file (get tree path) ≡ false) → IsTree (with_directory meta tree path)
    by None at free =
        subst IsTree (sym (with_directory-new meta tree path at))
        (placed-IsTree meta tree path (Directory meta) is clean (record { few = le-ltb 64 (length path) clean.few; way = free.0; clash = ap (λ x. clash_of x (Directory meta)) at }))
    by (Some (Directory m)) at free = subst IsTree (sym (with_directory-kept meta tree path is (ap is_directory at))) is
    by (Some (File m b)) at free = absurd (true≢false (sym (ap is_file at) ∙ free.1))

-- ---- a folder's entries

is-true : (b : Bool) → T b → b ≡ true
is-true true h = refl
is-true false h = absurd h

only-root : (own e : Entry) (q : Path) → find path_cmp q (([], own) ∷ []) ≡ Some e → q ≡ []
only-root own e q at = by (eq_by_cmp path_cmp q []) refl at
  where
    by : (tie : Bool) → eq_by_cmp path_cmp q [] ≡ tie → cond tie (Some own) None ≡ Some e → q ≡ []
    by true t s = path_same q [] t
    by false t s = absurd (true≢false (sym (ap is_some s)))

-- the rows below a folder are in order
rows-ready : (m : TreeMap) (own : Entry) → IsTree m → get m [] ≡ Some own → AreReady (λ q. q ≡ []) (drop 1 (entries m))
rows-ready m own is at =
    let first = own-first m own at in
    let rest : drop 1 (entries m) ≡ first.below = ap (drop 1) first.whole in
    let sorted : is_sorted path_cmp first.below ≡ true = both_second (below_all path_cmp [] first.below) _ (ap (is_sorted path_cmp) (sym first.whole) ∙ is-true _ (entries_sorted m)) in
    subst (λ (rows : Rows). AreReady (λ q. q ≡ []) rows) (sym rest)
    (ready-from m is (([], own) ∷ []) first.below (λ q. q ≡ []) first.whole sorted first.lower (λ q e found d. only-root own e q found))

module _ (o : CopyOptions) (into slash : Bool) (from : TreeMap) (dest : Path) (from_is : IsTree from) (clean : IsClean dest) where
  -- a tree after the changes of a path is a tree
  abbrev pub Leads : (path : Path) → Option Entry → TreeMap → TreeMap → Type 0
  Leads path there tree new = Lead change_cause (with_change (parent_meta o)) tree (match_changes o into dest path there (entries (map_below from path))) new

  match-tree : (path : Path) (there : Option Entry) (tree new : TreeMap) → get from path ≡ there → IsTree tree → Leads path there tree new → IsTree new
  match-tree path there tree new at is way =
      lead-tree change_cause (with_change (parent_meta o)) IsNamed (λ t c before. stepped-IsTree (parent_meta o) t c before) (match_changes o into dest path there (entries (map_below from path))) tree new is
      (named-match o into from dest from_is clean path there at) way

  folder-copied : (path : Path) (m : Meta) (tree new : TreeMap) → IsTree tree → get from path ≡ Some (Directory m) → make_cause (get tree) dest ≡ None
      → Lead change_cause (with_change (parent_meta o)) (with_directory (parent_meta o) tree dest) (placements o dest (drop 1 (entries (map_below from path)))) new
      → with_path slash (setting_of o) from dest path tree ≡ Some new
  folder-copied path m tree new is at none way =
      let meta : Meta = parent_meta o in
      let f : Path = first_folder slash dest in
      let on : is_on f dest ≡ true = first-on slash dest in
      let t1 : TreeMap = with_directory meta tree f in
      let t2 : TreeMap = with_directory meta tree dest in
      let rows : Rows = drop 1 (entries (map_below from path)) in
      let free = clear (is_blocked (get tree) dest) (is_file (get tree dest)) none in
      let none1 : make_cause (get t1) dest ≡ None = λ i. cond (still-open meta tree f dest free.0 i || no-file-more meta tree f dest free.1 i) (Some F2) None in
      let below = entries_below-IsBelow from path in
      let below_is : IsTree (map_below from path) = below-IsTree from path (map_below from path) from_is (ap is_directory at) below in
      let ready : AreReady (λ q. q ≡ []) rows = rows-ready (map_below from path) (Directory m) below_is (sym (own-below from path (map_below from path) below) ∙ at) in
      let named = named-match o into from dest from_is clean path (Some (Directory m)) at in
      let t2_is : IsTree t2 = made-tree meta tree dest is clean none in
      ap (option_and_then (with_found (setting_of o) from dest path (get from path))) (folder-made meta tree f (free-on (get tree) f dest on none))
      ∙ ap (λ x. with_found (setting_of o) from dest path x t1) at
      ∙ ap (option_and_then (with_entries (setting_of o) dest rows)) (folder-made meta t1 dest none1 ∙ ap Some (twice meta tree f dest on))
      ∙ entries-copied o dest rows (λ q. q ≡ []) t2 new t2_is (λ q e. ap (λ x. is_directory (get t2 (dest ++ x))) e ∙ ap (λ x. is_directory (get t2 x)) (append-nil dest) ∙ folder-there meta tree dest dest free.1 (on-itself dest))
      named.1 ready way

  pub path-copied : (path : Path) (there : Option Entry) (tree new : TreeMap) → get from path ≡ there → is_some there ≡ true → IsTree tree → Goes slash into tree dest → Leads path there tree new
      → with_path slash (setting_of o) from dest path tree ≡ Some new
  path-copied path None tree new at s is goes way = absurd (true≢false (sym s))
  path-copied [] (Some (File meta content)) tree new at s is goes way = absurd (true≢false (sym from_is.root ∙ ap is_directory at))
  path-copied (c ∷ cs) (Some (File meta content)) tree new at s is goes way =
      let last = last-of c cs in
      let own : drop (length (c ∷ cs) - 1) (c ∷ cs) ≡ last.1.0 ∷ [] = ap (λ x. drop (length x - 1) x) last.1.1 ∙ drop-last last.0 last.1.0 in
      let none : cause_at (get tree) (file_path into dest (last.1.0 ∷ [])) (placed_entry o (File meta content)) ≡ None =
      subst (λ (x : Path). cause_at (get tree) (file_path into dest x) (placed_entry o (File meta content)) ≡ None) own (free-placement (get tree) _ _ _ way.0.1) in
      file-copied o tree slash into from dest (c ∷ cs) last.1.0 meta content is goes own at none
      ∙ ap (λ x. Some (placed (parent_meta o) tree (file_path into dest x) (placed_entry o (File meta content)))) (sym own) ∙ ap Some way.1
  path-copied path (Some (Directory m)) tree new at s is goes way = folder-copied path m tree new is at way.0.1 way.1

  -- a folder at the destination stays there
  rows-keep : (rows : Rows) (q : Path) (tree new : TreeMap) → Lead change_cause (with_change (parent_meta o)) tree (placements o dest rows) new → is_directory (get tree q) ≡ true → is_directory (get new q) ≡ true
  rows-keep [] q tree new way there = ap (λ t. is_directory (get t q)) (sym way) ∙ there
  rows-keep (row ∷ rows) q tree new way there =
      let free = free-from_cause (get tree) (dest ++ row.0) (placed_entry o row.1) (free-placement (get tree) (dest ++ row.0) (placed_entry o row.1) _ way.0.1) in
      rows-keep rows q (placed (parent_meta o) tree (dest ++ row.0) (placed_entry o row.1)) new way.1 (placed-folder (parent_meta o) tree (dest ++ row.0) q (placed_entry o row.1) free.clash there)

  match-keeps : (path : Path) (there : Option Entry) (tree new : TreeMap) (q : Path) → Leads path there tree new → is_directory (get tree q) ≡ true → is_directory (get new q) ≡ true
  match-keeps path None tree new q way there = ap (λ t. is_directory (get t q)) (sym way) ∙ there
  match-keeps path (Some (File meta content)) tree new q way there =
      let p : Path = file_path into dest (drop (length path - 1) path) in
      let free = free-from_cause (get tree) p (placed_entry o (File meta content)) (free-placement (get tree) p (placed_entry o (File meta content)) _ way.0.1) in
      ap (λ t. is_directory (get t q)) (sym way.1) ∙ placed-folder (parent_meta o) tree p q (placed_entry o (File meta content)) free.clash there
  match-keeps path (Some (Directory m)) tree new q way there =
      rows-keep (drop 1 (entries (map_below from path))) q (with_directory (parent_meta o) tree dest) new way.1 (folder-stays (parent_meta o) tree dest q there)

  -- each path has something
  pub record ArePathsCopied (paths : List Path) (tree new : TreeMap) : Type 0 where
    pub copied : with_paths slash (setting_of o) from dest paths tree ≡ Some new
    pub is : IsTree new
    pub keeps : (q : Path) → is_directory (get tree q) ≡ true → is_directory (get new q) ≡ true

  pub still-goes : (tree mid : TreeMap) → Goes slash into tree dest → (is_directory (get tree dest) ≡ true → is_directory (get mid dest) ≡ true) → Goes slash into mid dest
  still-goes tree mid goes keeps = record { said = goes.said; why = λ e. by (goes.why e) }
    where
      by : (slash ≡ true) ⊎ (is_directory (get tree dest) ≡ true) → (slash ≡ true) ⊎ (is_directory (get mid dest) ≡ true)
      by (inl s) = inl s
      by (inr d) = inr (keeps d)

  not-absent : (there : Option Entry) (more : Bool) → (not (is_some there) || more) ≡ false → (is_some there ≡ true) × (more ≡ false)
  not-absent None more e = absurd (true≢false e)
  not-absent (Some x) more e = (refl, e)

  pub paths-copied : (paths : List Path) (tree new : TreeMap) → list_any (is_absent from) paths ≡ false → IsTree tree → Goes slash into tree dest
      → Lead change_cause (with_change (parent_meta o)) tree (paths_changes o into from dest paths) new → ArePathsCopied paths tree new
  paths-copied [] tree new present is goes way =
      record { copied = ap Some way; is = subst IsTree way is; keeps = λ q d. ap (λ t. is_directory (get t q)) (sym way) ∙ d }
  paths-copied (path ∷ paths) tree new present is goes way =
      let parts = split change_cause (with_change (parent_meta o)) tree new (path_changes o into from dest path) (paths_changes o into from dest paths) way in
      let mid : TreeMap = parts.0 in
      let there = not-absent (get from path) (list_any (is_absent from) paths) present in
      let first = path-copied path (get from path) tree mid refl there.0 is goes parts.1.0 in
      let mid_is : IsTree mid = match-tree path (get from path) tree mid refl is parts.1.0 in
      let keeps = λ (q : Path) (d : is_directory (get tree q) ≡ true). match-keeps path (get from path) tree mid q parts.1.0 d in
      let rest = paths-copied paths mid new there.1 mid_is (still-goes tree mid goes (keeps dest)) parts.1.1 in
      record {
        copied = ap (option_and_then (with_paths slash (setting_of o) from dest paths)) first ∙ rest.copied;
        is = rest.is;
        keeps = λ q d. rest.keeps q (keeps q d);
      }
