-- From the steps of a COPY of folders to what its calls promise.
use Rattle.std.specs.Prelude.{◌≡◌, ℕ, ◌+◌, ◌-◌, ◌<◌, ◌≤◌, get_or, Bool, true, false, ◌||◌, ◌⊎◌, cond, T, Option, Some, None, Result, Ok, Err, List, [], ◌∷◌, ◌++◌, length, is_some, drop}
use Rattle.std.proofs.Common.{sym, ap, refl, ◌∙◌, subst, true≢false, append-nil, append_assoc, length-append, inl, inr, zero, suc, arith}
use Rattle.std.proofs.lemmas.Bool.{le-ltb, lt-ltb}
use Rattle.std.proofs.lemmas.List.{drop_more}
use Rattle.std.specs.List.{AllByRecursion}
use Rattle.std.specs.Option.{option_or}
use Rattle.std.specs.Ordering.{eq_by_cmp, is_lt}
use Rattle.std.specs.FinMap.{get, find, entries, entries_sorted, get-entries, empty, get-empty}
use Rattle.std.specs.FinMap.Entries.{is_sorted, below_all}
use Rattle.paths.specs.Order.{path_cmp}
use Rattle.paths.specs.Fronts.{is_front, fronts}
use Rattle.paths.specs.Path.{IsClean}
use Rattle.plain.specs.declared.fault.Fault.{Fault}
use Rattle.plain.specs.declared.fault.Fault.TheVariants.{Because, Memory}
use Rattle.trees.specs.declared.meta.Meta.{Meta}
use Rattle.trees.specs.declared.entry.Entry.{Entry}
use Rattle.trees.specs.declared.entry.Entry.TheVariants.{Directory, File}
use Rattle.trees.specs.declared.copy.CopyOptions.{CopyOptions}
use Rattle.trees.specs.declared.copy.Change.{Change}
use Rattle.trees.specs.declared.copy.Change.TheVariants.{Make}
use Rattle.trees.specs.declared.cause.Cause.{Cause}
use Rattle.trees.specs.declared.cause.Cause.TheVariants.{F5}
use Rattle.trees.specs.declared.folder.Joined.{Joined}
use Rattle.trees.specs.declared.folder.Joined.TheVariants.{All, TooDeep, Other}
use Rattle.trees.specs.TreeMap.{TreeMap, IsTree, is_directory, is_file, is_blocked, directory_meta}
use Rattle.trees.specs.Over.{over}
use Rattle.trees.specs.Cause.{ChangesTree}
use Rattle.trees.specs.Make.{make_cause, with_directory, made_with}
use Rattle.trees.specs.Subtree.{map_below}
use Rattle.trees.specs.declared.copy.Source.{Source}
use Rattle.trees.specs.Copy.{changes_of, source_changes, paths_changes, path_changes, match_changes, placed_entry, placements, last_placed, needs_directory, changed_tree, first_cause}
use Rattle.trees.specs.PrivateCopy.{AppliesChanges, TellsCause, IsUnder, is_way, IsFreeBelow, MeetInDirectories, IsPlacedNode, IsLaidPlaced, IsNamed, Begins, IsJoined, Joins, IsSunk, Sinks, Comes, IsWhole, IsHung, HangsIn, keeping}
use Rattle.trees.specs.PrivateNode.{NodeValue, map_of, IsBelow, IsDeeper, IsFilled, filled}
use Rattle.paths.proofs.FrontLaws.{path_same, path_itself, both_first, both_second, front-irrefl, front-of, front-parts}
use Rattle.trees.proofs.CauseLaws.{tree_or-ok, tree_or-err}
use Rattle.trees.proofs.CopyLaws.{get-changed_tree, get-with_directory, any-append, way-either}
use Rattle.trees.proofs.CopyRows.{entries-head, of_directory}
use Rattle.trees.proofs.CopyTrees.{named-match, all-join, laid-more}
use Rattle.trees.proofs.SubtreeLaws.{same-below, entries_below-IsBelow, below-IsTree}
use Rattle.trees.proofs.NodeLaws.{get-map_of_root, get-map_of_cons}
use Rattle.trees.proofs.TreeLaws.{same_tree, get-over, over-IsTree, empty-IsTree, file-from_directory, get-empty_tree}
use Rattle.trees.proofs.TreeSteps.{own-entry, leaf-empty}
use Rattle.trees.proofs.WayLaws.{open-from_fronts}
use Rattle.trees.proofs.FillSteps.{filled-under, filled-apart}
use Rattle.trees.proofs.PlacedSteps.{placed-tree, placed-some, placed-kind, placements-placed, seen-placed}
use Rattle.trees.proofs.SeenSteps.{some-seen}
use Rattle.trees.specs.PrivateSeen.{seen}
use Rattle.trees.proofs.FolderSteps.{Path, cancel, below-way, never, last_placed-append, first_cause-append, IsShallow, IsRow, IsHanging, IsFresh, AreFresh, found-deep, hang-make, hang-all, make-free, no-causes, deep-causes, none-found, last-found}

abbrev Rows : Type 0
Rows = List (Path × Entry)

is-true : (b : Bool) → T b → b ≡ true
is-true true h = refl
is-true false h = absurd h

none-from : (x : Option Entry) → (is_some x ≡ true → ⊥) → x ≡ None
none-from None h = refl
none-from (Some e) h = absurd (h refl)

-- ---- the rows of a folder but for its own

module _ (below : TreeMap) where
  all-rows : (rows : Rows) → is_sorted path_cmp rows ≡ true → below_all path_cmp [] rows ≡ true → ((q : Path) (e : Entry) → find path_cmp q rows ≡ Some e → get below q ≡ Some e)
      → AllByRecursion (λ (row : Path × Entry). IsUnder [] row.0 × (get below row.0 ≡ Some row.1)) rows
  all-rows [] s low f = tt
  all-rows (([], e) ∷ rows) s low f = absurd (true≢false (sym (both_first (is_lt (path_cmp [] [])) (below_all path_cmp [] rows) low)))
  all-rows ((c ∷ cs, e) ∷ rows) s low f = (
    ((c, (cs, refl)), f (c ∷ cs) e (ap (λ b. cond b (Some e) (find path_cmp (c ∷ cs) rows)) (path_itself (c ∷ cs)))),
    all-rows rows (both_second (below_all path_cmp (c ∷ cs) rows) _ s) (both_second (is_lt (path_cmp [] (c ∷ cs))) _ low) (λ q x g. f q x (by q x g (eq_by_cmp path_cmp q (c ∷ cs)) refl)),
  )
    where
      by : (q : Path) (x : Entry) → find path_cmp q rows ≡ Some x → (tie : Bool) → eq_by_cmp path_cmp q (c ∷ cs) ≡ tie → cond tie (Some e) (find path_cmp q rows) ≡ Some x
      by q x g true t = absurd (true≢false (sym (ap is_some (sym (ap (λ p. find path_cmp p rows) (path_same q (c ∷ cs) t) ∙ none-found (c ∷ cs) rows (both_first _ _ s)) ∙ g))))
      by q x g false t = g

-- ---- one tree laid over another that it meets in directories

module _ (low up : TreeMap) (low_is : IsTree low) (up_is : IsTree up) (meets : MeetInDirectories low up) where
  -- no file of the upper stands on the way to what the lower has
  way_open : (c : List ℕ) (cs : Path) → is_some (get low (c ∷ cs)) ≡ true → is_blocked (get up) (c ∷ cs) ≡ false
  way_open c cs some = open-from_fronts (get up) (c ∷ cs) (λ f g. at f g (get up f) refl)
    where
      at : (f : Path) → is_front f (c ∷ cs) ≡ true → (x : Option Entry) → get up f ≡ x → is_file (get up f) ≡ false
      at f g None is = ap is_file is
      at [] g (Some e) is = file-from_directory (get up []) up_is.root
      at (d ∷ ds) g (Some e) is =
          let d_is = low_is.parents (d ∷ ds) (c ∷ cs) g some in
          file-from_directory (get up (d ∷ ds)) (meets.at d ds (directory-some (get low (d ∷ ds)) d_is) (ap is_some is)).1
        where
          directory-some : (x : Option Entry) → is_directory x ≡ true → is_some x ≡ true
          directory-some None d = d
          directory-some (Some e) d = refl

  laid-at : (c : List ℕ) (cs : Path) → get (over low up) (c ∷ cs) ≡ option_or (get up (c ∷ cs)) (get low (c ∷ cs))
  laid-at c cs = get-over low up (c ∷ cs) ∙ ap (option_or (get up (c ∷ cs))) (by (get low (c ∷ cs)) refl)
    where
      blank : (b : Bool) → cond {A = Option Entry} b None None ≡ None
      blank true = refl
      blank false = refl

      by : (x : Option Entry) → get low (c ∷ cs) ≡ x → cond (is_blocked (get up) (c ∷ cs)) None (get low (c ∷ cs)) ≡ get low (c ∷ cs)
      by None is = ap (cond (is_blocked (get up) (c ∷ cs)) None) is ∙ blank (is_blocked (get up) (c ∷ cs)) ∙ sym is
      by (Some e) is = ap (λ b. cond b None (get low (c ∷ cs))) (way_open c cs (ap is_some is))

  kind-low : (c : List ℕ) (cs : Path) (e : Entry) → get low (c ∷ cs) ≡ Some e → is_directory (get (over low up) (c ∷ cs)) ≡ is_directory (Some e)
  kind-low c cs e is = ap is_directory (laid-at c cs) ∙ by (get up (c ∷ cs)) refl
    where
      by : (x : Option Entry) → get up (c ∷ cs) ≡ x → is_directory (option_or (get up (c ∷ cs)) (get low (c ∷ cs))) ≡ is_directory (Some e)
      by None g = (λ i. is_directory (option_or (g i) (is i)))
      by (Some x) g =
          let both = meets.at c cs (ap is_some is) (ap is_some g) in
          (λ i. is_directory (option_or (g i) (get low (c ∷ cs)))) ∙ ap is_directory (sym g) ∙ both.1 ∙ sym both.0 ∙ ap is_directory is

  upper-at : (c : List ℕ) (cs : Path) (e : Entry) → get up (c ∷ cs) ≡ Some e → get (over low up) (c ∷ cs) ≡ Some e
  upper-at c cs e is = laid-at c cs ∙ ap (λ x. option_or x (get low (c ∷ cs))) is

-- ---- one folder more is joined

module _ (dest : Path) (before : List Change) (low up : TreeMap) (top : Entry) (j : IsJoined dest before low) (up_is : IsTree up) (own : get up [] ≡ Some top) (meets : MeetInDirectories low up)
    (named : AllByRecursion IsNamed (Make dest ∷ placements keeping dest (drop 1 (entries up)))) where
  abbrev whole : TreeMap
  whole = over low up

  abbrev rows : Rows
  rows = drop 1 (entries up)

  whole_is : IsTree whole
  whole_is = over-IsTree low up j.tree up_is

  sorted : is_sorted path_cmp (([], top) ∷ rows) ≡ true
  sorted = ap (is_sorted path_cmp) (sym (entries-head up top own)) ∙ is-true _ (entries_sorted up)

  order : is_sorted path_cmp rows ≡ true
  order = both_second (below_all path_cmp [] rows) _ sorted

  first : below_all path_cmp [] rows ≡ true
  first = both_first _ _ sorted

  holds : (c : List ℕ) (cs : Path) → get up (c ∷ cs) ≡ find path_cmp (c ∷ cs) rows
  holds c cs = get-entries up (c ∷ cs) ∙ ap (find path_cmp (c ∷ cs)) (entries-head up top own)

  sound : (q : Path) (e : Entry) → find path_cmp q rows ≡ Some e → get up q ≡ Some e
  sound [] e f = absurd (true≢false (sym (ap is_some (sym (none-found [] rows first) ∙ f))))
  sound (c ∷ cs) e f = holds c cs ∙ f

  abbrev IsOfUpper : Path × Entry → Type 0
  IsOfUpper row = IsUnder [] row.0 × (get up row.0 ≡ Some row.1)

  as-rows : (xs : Rows) → AllByRecursion IsOfUpper xs → AllByRecursion (IsRow dest whole whole_is) xs
  as-rows [] h = tt
  as-rows (x ∷ xs) h = (
    record {
      named = h.0.0;
      there = ap is_some stands;
      kind = ap is_directory stands;
    },
    as-rows xs h.1,
  )
    where
      stands : get whole x.0 ≡ Some x.1
      stands = ap (get whole) h.0.0.1.1 ∙ upper-at low up j.tree up_is meets h.0.0.0 h.0.0.1.0 x.1 (ap (get up) (sym h.0.0.1.1) ∙ h.0.1)

  of-upper : AllByRecursion IsOfUpper rows
  of-upper = all-rows up rows order first sound

  start : IsHanging dest whole whole_is before
  start = record { placed = placed; needs = λ q n. needs q (j.needs q n) }
    where
      lies : (q : Path) (u : IsUnder dest q) → last_placed before q ≡ get low (u.0 ∷ u.1.0)
      lies q u = ap (last_placed before) u.1.1 ∙ j.last u.0 u.1.0

      placed : (q : Path) (e : Entry) → last_placed before q ≡ Some e → (u : IsUnder dest q) × (is_directory (get whole (u.0 ∷ u.1.0)) ≡ is_directory (Some e))
      placed q e l = let u = j.under q e l in (u, kind-low low up j.tree up_is meets u.0 u.1.0 e (sym (lies q u) ∙ l))

      directory : (u : Path) (c : List ℕ) (cs : Path) → u ≡ c ∷ cs → (x : Option Entry) → get low (c ∷ cs) ≡ x → is_directory x ≡ true → is_directory (get whole (c ∷ cs)) ≡ true
      directory u c cs e None is d = absurd (true≢false (sym d))
      directory u c cs e (Some x) is d = kind-low low up j.tree up_is meets c cs x is ∙ d

      needs : (q : Path) → (is_way dest q ≡ true) ⊎ ((u : IsUnder dest q) × (is_directory (get low (u.0 ∷ u.1.0)) ≡ true)) → (is_way dest q ≡ true) ⊎ ((u : IsUnder dest q) × (is_directory (get whole (u.0 ∷ u.1.0)) ≡ true))
      needs q (inl w) = inl w
      needs q (inr (u, d)) = inr (u, directory (u.0 ∷ u.1.0) u.0 u.1.0 refl (get low (u.0 ∷ u.1.0)) refl d)

  abbrev making : List Change
  making = before ++ Make dest ∷ []

  fresh : (xs : Rows) → AllByRecursion IsOfUpper xs → AreFresh dest whole whole_is making xs
  fresh [] h = tt
  fresh (x ∷ xs) h = (by (get low x.0) refl, fresh xs h.1)
    where
      before-is : last_placed making (dest ++ x.0) ≡ get low x.0
      before-is =
          last_placed-append before (Make dest ∷ []) (dest ++ x.0) ∙ ap (λ r. last_placed before (dest ++ r)) h.0.0.1.1
          ∙ j.last h.0.0.0 h.0.0.1.0 ∙ ap (get low) (sym h.0.0.1.1)

      by : (y : Option Entry) → get low x.0 ≡ y → IsFresh dest whole whole_is making x
      by None is = inl (before-is ∙ is)
      by (Some y) is = inr (ap is_directory (sym h.0.1) ∙ ap (λ r. is_directory (get up r)) h.0.0.1.1 ∙ both.1)
        where
          both : (is_directory (get low (h.0.0.0 ∷ h.0.0.1.0)) ≡ true) × (is_directory (get up (h.0.0.0 ∷ h.0.0.1.0)) ≡ true)
          both = meets.at h.0.0.0 h.0.0.1.0 (ap (λ r. is_some (get low r)) (sym h.0.0.1.1) ∙ ap is_some is) (ap (λ r. is_some (get up r)) (sym h.0.0.1.1) ∙ ap is_some h.0.1)

  abbrev more : List Change
  more = Make dest ∷ placements keeping dest rows

  joined-whole : before ++ more ≡ making ++ placements keeping dest rows
  joined-whole = sym (append_assoc before (Make dest ∷ []) (placements keeping dest rows))

  end : IsHanging dest whole whole_is (before ++ more)
  end = subst (IsHanging dest whole whole_is) (sym joined-whole) (hang-all dest whole whole_is making rows (hang-make dest whole whole_is before start) (as-rows rows of-upper))

  shallow : ((r : Path) → is_some (get up r) ≡ true → length (dest ++ r) ≤ 64) → (xs : Rows) → AllByRecursion IsOfUpper xs → AllByRecursion (IsShallow dest) xs
  shallow few [] h = tt
  shallow few (x ∷ xs) h = (le-ltb 64 (length (dest ++ x.0)) (few x.0 (ap is_some h.0.1)), shallow few xs h.1)

  no-cause : ((r : Path) → is_some (get up r) ≡ true → length (dest ++ r) ≤ 64) → (meta : Meta) (tree : TreeMap) → make_cause (get tree) dest ≡ None → IsFreeBelow tree dest → first_cause meta tree [] (before ++ more) ≡ None
  no-cause few meta tree free none =
      first_cause-append meta tree [] before more
      ∙ (λ i. option_or (j.fine meta tree free none i) (option_or (make-free dest whole whole_is meta tree free none before start i) (first_cause meta tree making (placements keeping dest rows))))
      ∙ no-causes dest whole whole_is meta tree free none making rows (hang-make dest whole whole_is before start) (as-rows rows of-upper) order (fresh rows of-upper) (shallow few rows of-upper)

  begun : (before ≡ []) ⊎ Begins dest before → Begins dest (before ++ more)
  begun (inl none) = (placements keeping dest rows, ap (λ (cs : List Change). cs ++ more) none)
  begun (inr b) = (b.0 ++ more, ap (λ (cs : List Change). cs ++ more) b.1)

  last-whole : (c : List ℕ) (cs : Path) → last_placed (before ++ more) (dest ++ c ∷ cs) ≡ get whole (c ∷ cs)
  last-whole c cs =
      last_placed-append before more (dest ++ c ∷ cs)
      ∙ (λ i. option_or (last_placed-append (Make dest ∷ []) (placements keeping dest rows) (dest ++ c ∷ cs) i) (j.last c cs i))
      ∙ (λ i. option_or (option_or (last-found dest rows (c ∷ cs) order i) None) (get low (c ∷ cs)))
      ∙ ap (λ x. option_or x (get low (c ∷ cs))) (or_none (find path_cmp (c ∷ cs) rows) ∙ sym (holds c cs))
      ∙ sym (laid-at low up j.tree up_is meets c cs)
    where
      or_none : (x : Option Entry) → option_or x None ≡ x
      or_none None = refl
      or_none (Some e) = refl

  pub joined-more : ((r : Path) → is_some (get up r) ≡ true → length (dest ++ r) ≤ 64) → IsJoined dest (before ++ more) whole
  joined-more few = record {
    tree = whole_is;
    named = all-join before more j.named named;
    last = last-whole;
    under = λ q e l. (end.placed q e l).0;
    needs = end.needs;
    fine = no-cause few;
    begins = inr (begun j.begins);
  }

  -- and one that goes too deep
  pub sunk-more : (c : List ℕ) (cs : Path) → is_some (get up (c ∷ cs)) ≡ true → 64 < length (dest ++ c ∷ cs) → IsSunk dest (before ++ more)
  sunk-more c cs some long = record {
    begins = begun j.begins;
    deep = λ meta tree free none.
        first_cause-append meta tree [] before more
        ∙ (λ i. option_or (j.fine meta tree free none i) (option_or (make-free dest whole whole_is meta tree free none before start i) (first_cause meta tree making (placements keeping dest rows))))
        ∙ deep-causes dest whole whole_is meta tree free none making rows (hang-make dest whole whole_is before start) (as-rows rows of-upper) order (fresh rows of-upper)
        (found-deep dest (c ∷ cs) rows (lt-ltb 64 (length (dest ++ c ∷ cs)) long) (ap is_some (sym (holds c cs)) ∙ some));
  }

-- nothing is joined yet
pub joined-none : (dest : Path) (leaf : NodeValue) → leaf.top ≡ Directory directory_meta → leaf.below ≡ empty → IsJoined dest [] (map_of leaf)
joined-none dest leaf top below = subst (IsJoined dest []) (sym (leaf-empty leaf top below)) (record {
  tree = empty-IsTree;
  named = tt;
  last = λ c cs. sym (get-empty_tree (c ∷ cs));
  under = λ q e l. absurd (true≢false (ap is_some (sym l)));
  needs = λ q n. absurd (true≢false (sym n));
  fine = λ meta tree free none. refl;
  begins = inl refl;
})

-- ---- the changes of one match

-- a match that is a directory is a tree of its own
match-tree : (from : TreeMap) (path : Path) (folder : NodeValue) (told : Bool) → IsTree from → IsBelow from path (map_of folder) → told ≡ is_directory (Some folder.top) → told ≡ true → IsTree (map_of folder)
match-tree from path folder told from_is lies is t = below-IsTree from path (map_of folder) from_is (ap is_directory (own-entry from path folder lies) ∙ sym is ∙ t) lies

module _ (o : CopyOptions) (from : TreeMap) (dest path : Path) (folder : NodeValue) (told : Bool) (joined : NodeValue) (from_is : IsTree from) (clean : IsClean dest) (lies : IsBelow from path (map_of folder)) (is : told ≡ is_directory (Some folder.top)) (t : told ≡ true)
    (meets : MeetInDirectories joined.below folder.below) where
  folder_is : IsTree (map_of folder)
  folder_is = match-tree from path folder told from_is lies is t

  of-match : (into : Bool) → path_changes o into from dest path ≡ Make dest ∷ placements o dest (drop 1 (entries (map_of folder)))
  of-match into =
      (λ i. match_changes o into dest path (get from path) (entries (same-below from path (map_below from path) (map_of folder) (entries_below-IsBelow from path) lies i)))
      ∙ of_directory o into dest path (get from path) (entries (map_of folder)) (ap is_directory (own-entry from path folder lies) ∙ sym is ∙ t)

  named : (into : Bool) → AllByRecursion IsNamed (path_changes o into from dest path)
  named into = named-match o into from dest from_is clean path (get from path) refl

  -- upper is the folder as it is placed
  module _ (upper : NodeValue) (placed : IsPlacedNode o folder upper) where
    changes-are : (into : Bool) → path_changes o into from dest path ≡ Make dest ∷ placements keeping dest (drop 1 (entries (map_of upper)))
    changes-are into = of-match into ∙ ap (λ (cs : List Change). Make dest ∷ cs) (sym (placements-placed o dest folder upper placed))

    meet : (c : List ℕ) (cs : Path) → is_some (get (map_of joined) (c ∷ cs)) ≡ true → is_some (get (map_of upper) (c ∷ cs)) ≡ true → (is_directory (get (map_of joined) (c ∷ cs)) ≡ true) × (is_directory (get (map_of upper) (c ∷ cs)) ≡ true)
    meet c cs s u =
        let below-old = get-map_of_cons joined c cs in
        let in-folder = placed-some o folder upper placed (c ∷ cs) u in
        let both = meets.at c cs (ap is_some (sym below-old) ∙ s) (ap is_some (sym (get-map_of_cons folder c cs)) ∙ in-folder) in
        (ap is_directory below-old ∙ both.0, placed-kind o folder upper placed (c ∷ cs) ∙ ap is_directory (get-map_of_cons folder c cs) ∙ both.1)

  pub match-joined : (new : TreeMap) → ((r : Path) → is_some (get (map_of folder) r) ≡ true → length (dest ++ r) ≤ 64) → IsLaidPlaced o (map_of joined) folder new → (into : Bool) → Joins dest (path_changes o into from dest path) (map_of joined) new
  match-joined new few laid into before j =
      subst (λ (cs : List Change). IsJoined dest (before ++ cs) new) (sym (changes-are laid.upper laid.placed into))
      (subst (λ (m : TreeMap). IsJoined dest (before ++ Make dest ∷ placements keeping dest (drop 1 (entries (map_of laid.upper)))) m) (sym laid.laid)
      (joined-more dest before (map_of joined) (map_of laid.upper) laid.upper.top j (placed-tree o folder laid.upper laid.placed folder_is) (get-map_of_root laid.upper) (record { at = meet laid.upper laid.placed })
      (subst (λ (cs : List Change). AllByRecursion IsNamed cs) (changes-are laid.upper laid.placed into) (named into)) (λ r some. few r (placed-some o folder laid.upper laid.placed r some))))

  pub match-sinks : length dest ≤ 64 → IsDeeper (64 - length dest) folder.below → (into : Bool) → Sinks dest (path_changes o into from dest path) (map_of joined)
  match-sinks short deeper into before j =
      subst (λ (cs : List Change). IsSunk dest (before ++ cs)) (sym (changes-are upper as-placed into)) (by deeper.path deeper.stands deeper.long)
    where
      upper : NodeValue
      upper = seen o folder

      as-placed : IsPlacedNode o folder upper
      as-placed = seen-placed o folder

      by : (r : Path) → is_some (get folder.below r) ≡ true → 64 - length dest < length r → IsSunk dest (before ++ Make dest ∷ placements keeping dest (drop 1 (entries (map_of upper))))
      by [] stands long = absurd (omega arith)
      by (c ∷ cs) stands long =
          let l = length-append dest (c ∷ cs) in
          sunk-more dest before (map_of joined) (map_of upper) upper.top j (placed-tree o folder upper as-placed folder_is) (get-map_of_root upper) (record { at = meet upper as-placed })
          (subst (λ (cs : List Change). AllByRecursion IsNamed cs) (changes-are upper as-placed into) (named into)) c cs (ap is_some (get-map_of_cons upper c cs) ∙ some-seen o folder.below (c ∷ cs) ∙ stands) (omega arith)

-- ---- one after the other

drop-all : {A : Type 0} (xs : List A) (n : ℕ) → length xs ≤ n → drop n xs ≡ []
drop-all [] zero less = refl
drop-all [] (suc n) less = refl
drop-all (x ∷ xs) zero less = absurd (omega arith)
drop-all (x ∷ xs) (suc n) less = drop-all xs n (omega arith)

pub joins-none : (dest : Path) (m : TreeMap) → Joins dest [] m m
joins-none dest m before j = subst (λ (cs : List Change). IsJoined dest cs m) (sym (append-nil before)) j

pub joins-more : (dest : Path) (xs ys : List Change) (a b c : TreeMap) → Joins dest xs a b → Joins dest ys b c → Joins dest (xs ++ ys) a c
joins-more dest xs ys a b c h g before j = subst (λ (cs : List Change). IsJoined dest cs c) (append_assoc before xs ys) (g (before ++ xs) (h before j))

-- where the first of them go too deep, all do
pub sinks-before : (dest : Path) (xs ys : List Change) (a : TreeMap) → Sinks dest xs a → Sinks dest (xs ++ ys) a
sinks-before dest xs ys a h before j = subst (IsSunk dest) (append_assoc before xs ys) (record {
  begins = (sunk.begins.0 ++ ys, ap (λ (cs : List Change). cs ++ ys) sunk.begins.1);
  deep = λ meta tree free none. first_cause-append meta tree [] (before ++ xs) ys ∙ ap (λ c. option_or c (first_cause meta tree (before ++ xs) ys)) (sunk.deep meta tree free none);
})
  where
    sunk : IsSunk dest (before ++ xs)
    sunk = h before j

-- what becomes of those after them becomes of all
pub comes-after : (dest : Path) (xs ys : List Change) (a b c : TreeMap) (came : Joined) → Joins dest xs a b → Comes dest ys b c came → Comes dest (xs ++ ys) a c came
comes-after dest xs ys a b c All h g = joins-more dest xs ys a b c h g
comes-after dest xs ys a b c TooDeep h g = λ before j. subst (IsSunk dest) (append_assoc before xs ys) (g (before ++ xs) (h before j))
comes-after dest xs ys a b c Other h g = tt

pub paths-more : (o : CopyOptions) (into : Bool) (from : TreeMap) (dest : Path) (paths : List Path) (index : ℕ) (path : Path) (a b c : TreeMap) (came : Joined) → index < length paths → path ≡ get_or paths index path → Joins dest (path_changes o into from dest path) a b
    → Comes dest (paths_changes o into from dest (drop (index + 1) paths)) b c came → Comes dest (paths_changes o into from dest (drop index paths)) a c came
paths-more o into from dest paths index path a b c came less is h g =
    subst (λ (ps : List Path). Comes dest (paths_changes o into from dest ps) a c came) (sym (drop_more paths index path less ∙ ap (λ (q : Path). q ∷ drop (index + 1) paths) (sym is)))
    (comes-after dest (path_changes o into from dest path) (paths_changes o into from dest (drop (index + 1) paths)) a b c came h g)

pub paths-sink : (o : CopyOptions) (into : Bool) (from : TreeMap) (dest : Path) (paths : List Path) (index : ℕ) (path : Path) (a : TreeMap) → index < length paths → path ≡ get_or paths index path → Sinks dest (path_changes o into from dest path) a → Sinks dest (paths_changes o into from dest (drop index paths)) a
paths-sink o into from dest paths index path a less is h =
    subst (λ (ps : List Path). Sinks dest (paths_changes o into from dest ps) a) (sym (drop_more paths index path less ∙ ap (λ (q : Path). q ∷ drop (index + 1) paths) (sym is)))
    (sinks-before dest (path_changes o into from dest path) (paths_changes o into from dest (drop (index + 1) paths)) a h)

pub paths-none : (o : CopyOptions) (into : Bool) (from : TreeMap) (dest : Path) (paths : List Path) (index : ℕ) (a : TreeMap) → length paths ≤ index → Joins dest (paths_changes o into from dest (drop index paths)) a a
paths-none o into from dest paths index a less = subst (λ (ps : List Path). Joins dest (paths_changes o into from dest ps) a a) (sym (drop-all paths index less)) (joins-none dest a)

pub sources-more : (o : CopyOptions) (into : Bool) (from : TreeMap) (dest : Path) (sources : List Source) (index : ℕ) (source : Source) (a b c : TreeMap) (came : Joined) → index < length sources → source ≡ get_or sources index source → Joins dest (source_changes o into from dest source) a b
    → Comes dest (changes_of o into from dest (drop (index + 1) sources)) b c came → Comes dest (changes_of o into from dest (drop index sources)) a c came
sources-more o into from dest sources index source a b c came less is h g =
    subst (λ (ss : List Source). Comes dest (changes_of o into from dest ss) a c came) (sym (drop_more sources index source less ∙ ap (λ (q : Source). q ∷ drop (index + 1) sources) (sym is)))
    (comes-after dest (source_changes o into from dest source) (changes_of o into from dest (drop (index + 1) sources)) a b c came h g)

pub sources-sink : (o : CopyOptions) (into : Bool) (from : TreeMap) (dest : Path) (sources : List Source) (index : ℕ) (source : Source) (a : TreeMap) → index < length sources → source ≡ get_or sources index source → Sinks dest (source_changes o into from dest source) a → Sinks dest (changes_of o into from dest (drop index sources)) a
sources-sink o into from dest sources index source a less is h =
    subst (λ (ss : List Source). Sinks dest (changes_of o into from dest ss) a) (sym (drop_more sources index source less ∙ ap (λ (q : Source). q ∷ drop (index + 1) sources) (sym is)))
    (sinks-before dest (source_changes o into from dest source) (changes_of o into from dest (drop (index + 1) sources)) a h)

pub sources-none : (o : CopyOptions) (into : Bool) (from : TreeMap) (dest : Path) (sources : List Source) (index : ℕ) (a : TreeMap) → length sources ≤ index → Joins dest (changes_of o into from dest (drop index sources)) a a
sources-none o into from dest sources index a less = subst (λ (ss : List Source). Joins dest (changes_of o into from dest ss) a a) (sym (drop-all sources index less)) (joins-none dest a)

-- a folder is laid as it is placed
pub laid-placed : (o : CopyOptions) (old : TreeMap) (folder upper : NodeValue) (new : TreeMap) → IsPlacedNode o folder upper → new ≡ over old (map_of upper) → IsLaidPlaced o old folder new
laid-placed o old folder upper new h is = record { upper = upper; placed = h; laid = is }

-- ---- the call that hangs a folder in

pub hung-in : (meta : Meta) (tree mid new : TreeMap) (dest a : Path) (folder : NodeValue) → made_with meta tree dest ≡ Ok mid → a ≡ dest → IsFilled (get mid) (get new) a folder.below → (make_cause (get tree) dest ≡ None) × IsHung meta tree dest (map_of folder) new
hung-in meta tree mid new dest a folder done same h =
    let made = tree_or-ok (make_cause (get tree) dest) (with_directory meta tree dest) mid done in
    let there : is_some (get mid a) ≡ true = (λ i. is_some (get (sym made.1 i) (same i))) ∙ made-stands in (
      made.0,
      record {
        under = λ c cs. h.at there (dest ++ c ∷ cs) ∙ (λ i. filled-at (same i) (dest ++ c ∷ cs)) ∙ filled-under (get mid) folder.below dest c cs ∙ sym (get-map_of_cons folder c cs);
        apart = λ q out. h.at there q ∙ (λ i. filled-at (same i) q) ∙ filled-apart (get mid) folder.below dest q out ∙ ap (λ m. get m q) (sym made.1);
      },
    )
  where
    filled-at : Path → Path → Option Entry
    filled-at p q = filled (get mid) folder.below p q

    some-or : (x : Option Entry) (e : Entry) → is_some (option_or x (Some e)) ≡ true
    some-or None e = refl
    some-or (Some x) e = refl

    way : is_way dest dest ≡ true
    way = λ i. front-irrefl dest i || path_itself dest i

    made-stands : is_some (get (with_directory meta tree dest) dest) ≡ true
    made-stands =
        ap is_some (get-with_directory meta tree dest dest ∙ (λ i. option_or (get tree dest) (cond (way i) (Some (Directory meta)) None))) ∙ some-or (get tree dest) (Directory meta)

pub hung-not : (meta : Meta) (tree mid : TreeMap) (dest : Path) (fault : Fault Cause) → ChangesTree (made_with meta tree dest) tree mid (Err fault) → TellsCause fault (make_cause (get tree) dest)
hung-not meta tree mid dest (Because cause) h = tree_or-err (make_cause (get tree) dest) (with_directory meta tree dest) cause h.0
hung-not meta tree mid dest Memory h = tt

-- ---- which folders are hung in

pub keeps-plain : (o : CopyOptions) → o.owner ≡ None → o.mode ≡ None → (e : Entry) → placed_entry o e ≡ e
keeps-plain o owner mode (Directory m) = (λ i. placed_entry (record { into = o.into; owner = owner i; mode = mode i }) (Directory m))
keeps-plain o owner mode (File m b) = (λ i. placed_entry (record { into = o.into; owner = owner i; mode = mode i }) (File m b))

-- below nothing lies nothing
pub free-none : (tree : TreeMap) (dest : Path) → IsTree tree → get tree dest ≡ None → IsFreeBelow tree dest
free-none tree dest is none c cs = none-from _ (λ some. true≢false (sym (is.parents dest (dest ++ c ∷ cs) (front-of dest c cs) some) ∙ ap is_directory none))

-- and below a node that nothing is below
pub free-bare : (tree : TreeMap) (dest : Path) (node : NodeValue) → IsBelow tree dest (map_of node) → node.below ≡ empty → IsFreeBelow tree dest
free-bare tree dest node lies bare c cs = sym (lies.at (c ∷ cs)) ∙ get-map_of_cons node c cs ∙ ap (λ m. get m (c ∷ cs)) bare ∙ get-empty path_cmp (c ∷ cs)

-- changes that leave something begin
pub is-whole : (tree : TreeMap) (dest : Path) (changes : List Change) (leaf folder : NodeValue) → leaf.top ≡ Directory directory_meta → leaf.below ≡ empty → IsFreeBelow tree dest → (name : List ℕ) × (is_some (get folder.below (name ∷ [])) ≡ true) → Joins dest changes (map_of leaf) (map_of folder)
    → IsWhole tree dest changes (map_of folder)
is-whole tree dest changes leaf folder top below free full joins = record { joined = j; begins = by j.begins; free = free }
  where
    j : IsJoined dest changes (map_of folder)
    j = joins [] (joined-none dest leaf top below)

    by : (changes ≡ []) ⊎ Begins dest changes → Begins dest changes
    by (inr b) = b
    by (inl none) =
        absurd (true≢false (sym full.1 ∙ ap is_some (sym (get-map_of_cons folder full.0 [])) ∙ ap is_some (sym (j.last full.0 [])) ∙ (λ i. is_some (last_placed (none i) (dest ++ full.0 ∷ [])))))

-- what goes too deep with nothing before it
pub is-deep : (tree : TreeMap) (dest : Path) (changes : List Change) (leaf : NodeValue) → leaf.top ≡ Directory directory_meta → leaf.below ≡ empty → IsFreeBelow tree dest → Sinks dest changes (map_of leaf) → IsSunk dest changes × IsFreeBelow tree dest
is-deep tree dest changes leaf top below free sinks = (sinks [] (joined-none dest leaf top below), free)

-- why it fails
pub deep-told : (meta : Meta) (tree : TreeMap) (dest a : Path) (changes : List Change) (told : Option Cause) → told ≡ make_cause (get tree) a → a ≡ dest → IsSunk dest changes → IsFreeBelow tree dest → first_cause meta tree [] changes ≡ option_or told (Some F5)
deep-told meta tree dest a changes told is same sunk free = by told (is ∙ ap (make_cause (get tree)) same)
  where
    by : (x : Option Cause) → x ≡ make_cause (get tree) dest → first_cause meta tree [] changes ≡ option_or x (Some F5)
    by None none = sunk.deep meta tree (sym none) free
    by (Some cause) because = ap (first_cause meta tree []) sunk.begins.1 ∙ ap (λ c. option_or c (first_cause meta tree (Make dest ∷ []) sunk.begins.0)) (sym because)

-- ---- what is hung in is what the changes come to

module _ (meta : Meta) (tree : TreeMap) (dest : Path) (changes : List Change) (folder : TreeMap) (w : IsWhole tree dest changes folder) (new : TreeMap) (h : IsHung meta tree dest folder new) where
  at-under : (c : List ℕ) (cs : Path) → get (changed_tree meta tree changes) (dest ++ c ∷ cs) ≡ get folder (c ∷ cs)
  at-under c cs =
      get-changed_tree meta tree changes (dest ++ c ∷ cs)
      ∙ (λ i. option_or (w.joined.last c cs i) (option_or (w.free c cs i) (cond (needs_directory changes (dest ++ c ∷ cs)) (Some (Directory meta)) None)))
      ∙ by (get folder (c ∷ cs)) refl (needs_directory changes (dest ++ c ∷ cs)) refl
    where
      not_needed : get folder (c ∷ cs) ≡ None → (is_way dest (dest ++ c ∷ cs) ≡ true) ⊎ ((u : IsUnder dest (dest ++ c ∷ cs)) × (is_directory (get folder (u.0 ∷ u.1.0)) ≡ true)) → ⊥
      not_needed none (inl way) = below-way dest c cs way
      not_needed none (inr u) = true≢false (sym u.1 ∙ ap (λ r. is_directory (get folder r)) (sym (cancel dest (c ∷ cs) (u.0.0 ∷ u.0.1.0) u.0.1.1)) ∙ ap is_directory none)

      by : (x : Option Entry) → get folder (c ∷ cs) ≡ x → (b : Bool) → needs_directory changes (dest ++ c ∷ cs) ≡ b → option_or x (option_or None (cond b (Some (Directory meta)) None)) ≡ x
      by (Some e) is b n = refl
      by None is false n = refl
      by None is true n = absurd (not_needed is (w.joined.needs (dest ++ c ∷ cs) n))

  not-under : (q : Path) → is_front dest q ≡ false → IsUnder dest q → ⊥
  not-under q out u = true≢false (sym (front-of dest u.0 u.1.0) ∙ (λ i. is_front dest (sym u.1.1 i)) ∙ out)

  last-apart : (q : Path) → is_front dest q ≡ false → (x : Option Entry) → last_placed changes q ≡ x → x ≡ None
  last-apart q out None l = refl
  last-apart q out (Some e) l = absurd (not-under q out (w.joined.under q e l))

  needs-apart : (q : Path) → is_front dest q ≡ false → needs_directory changes q ≡ is_way dest q
  needs-apart q out = by (is_way dest q) refl
    where
      made_first : needs_directory changes q ≡ (is_way dest q || needs_directory w.begins.0 q)
      made_first = (λ i. needs_directory (w.begins.1 i) q) ∙ any-append (eq_by_cmp path_cmp q) (fronts dest ++ dest ∷ []) _ ∙ ap (λ b. b || needs_directory w.begins.0 q) (way-either q dest)

      not_needed : is_way dest q ≡ false → (is_way dest q ≡ true) ⊎ ((u : IsUnder dest q) × (is_directory (get folder (u.0 ∷ u.1.0)) ≡ true)) → ⊥
      not_needed is (inl g) = true≢false (sym g ∙ is)
      not_needed is (inr u) = not-under q out u.0

      by : (b : Bool) → is_way dest q ≡ b → needs_directory changes q ≡ b
      by true is = made_first ∙ ap (λ b. b || needs_directory w.begins.0 q) is
      by false is = never (needs_directory changes q) (λ n. not_needed is (w.joined.needs q n))

  at-apart : (q : Path) → is_front dest q ≡ false → get (changed_tree meta tree changes) q ≡ get (with_directory meta tree dest) q
  at-apart q out =
      get-changed_tree meta tree changes q
      ∙ (λ i. option_or (last-apart q out (last_placed changes q) refl i) (option_or (get tree q) (cond (needs-apart q out i) (Some (Directory meta)) None)))
      ∙ sym (get-with_directory meta tree dest q)

  hung-is : new ≡ changed_tree meta tree changes
  hung-is = same_tree _ _ (λ q. at q (is_front dest q) refl)
    where
      at : (q : Path) (b : Bool) → is_front dest q ≡ b → get new q ≡ get (changed_tree meta tree changes) q
      at q false out = h.apart q out ∙ sym (at-apart q out)
      at q true f =
          let parts = front-parts dest q f in
          ap (get new) parts.1.1 ∙ h.under parts.0 parts.1.0 ∙ sym (at-under parts.0 parts.1.0) ∙ ap (get (changed_tree meta tree changes)) (sym parts.1.1)

pub whole-applies : (meta parent : Meta) (tree : TreeMap) (dest : Path) (changes : List Change) (folder new : TreeMap) (r : Result (Unit {0}) (Fault Cause)) → IsTree tree → meta ≡ parent → IsWhole tree dest changes folder → HangsIn meta dest folder tree new r → AppliesChanges parent changes tree new r
whole-applies meta parent tree dest changes folder new r tree_is same w h = subst (λ (m : Meta). AppliesChanges m changes tree new r) same (by r h)
  where
    by : (r : Result (Unit {0}) (Fault Cause)) → HangsIn meta dest folder tree new r → AppliesChanges meta changes tree new r
    by (Ok done) g =
        let fine = w.joined.fine meta tree g.0 w.free in
        let is = hung-is meta tree dest changes folder w new g.1 in
        (fine, (is, subst IsTree (sym is) (laid-more meta tree [] changes tree_is w.joined.named fine)))
    by (Err (Because cause)) g =
        (λ i. first_cause meta tree [] (w.begins.1 i)) ∙ ap (λ c. option_or c (first_cause meta tree (Make dest ∷ []) w.begins.0)) g
    by (Err Memory) g = tt
