-- A whole tree copied onto another one: where that succeeds, what stands below the root is what laying one over the other leaves.
use Rattle.std.specs.Prelude.{◌≡◌, ℕ, Bool, true, false, ◌&&◌, cond, T, Option, Some, None, Ok, List, [], ◌∷◌, is_some, is_none, drop}
use Rattle.std.proofs.Common.{sym, ap, refl, ◌∙◌, true≢false}
use Rattle.std.proofs.lemmas.Option.{same_Some}
use Rattle.std.specs.Option.{option_or, option_and_then}
use Rattle.std.specs.Ordering.{eq_by_cmp, is_lt, is_eq}
use Rattle.std.specs.declared.cmp.Ordering.{Ordering}
use Rattle.std.specs.declared.cmp.Ordering.TheVariants.{Less, Equal, Greater}
use Rattle.std.specs.FinMap.{get, insert, entries, entries_sorted, get-entries, get-insert, find}
use Rattle.std.specs.FinMap.Entries.{is_sorted, below_all}
use Rattle.paths.specs.OrderLaws.{path_cmp_total}
use Rattle.paths.specs.Order.{path_cmp}
use Rattle.paths.specs.Path.{climbed}
use Rattle.paths.specs.Fronts.{is_front}
use Rattle.paths.proofs.FrontLaws.{path_same, both_first, both_second}
use Rattle.trees.specs.declared.entry.Entry.{Entry}
use Rattle.trees.specs.declared.entry.Entry.TheVariants.{Directory, File}
use Rattle.trees.specs.TreeMap.{TreeMap, IsTree, is_directory, is_file, is_blocked}
use Rattle.trees.specs.Put.{clash_of}
use Rattle.trees.specs.Over.{over}
use Rattle.trees.specs.Subtree.{map_below, directory_tree}
use Rattle.trees.proofs.BranchLaws.{own-first}
use Rattle.trees.proofs.SubtreeLaws.{subtree-root}
use Rattle.trees.proofs.TreeLaws.{get-over}
use Rattle.trees.proofs.WayLaws.{open-from_fronts}
use Rattle.fileactions.specs.Copying.{Setting, set_entry, with_entry, with_entries}
use Rattle.fileactions.specs.Claims.{AreAlike}
use Rattle.fileactions.proofs.Steps.{Path, not-true}
use Rattle.fileactions.proofs.Rows.{Rows}

-- a copy that sets nothing
abbrev pub keeping : Setting
keeping = record { owner = None; mode = None }

set-nothing : (e : Entry) → set_entry keeping e ≡ e
set-nothing (Directory meta) = refl
set-nothing (File meta content) = refl

-- ---- one entry

pub record IsWritten (path : Path) (entry : Entry) (tree new : TreeMap) : Type 0 where
  pub clash : clash_of (get tree path) entry ≡ None
  pub map : new ≡ insert tree path entry

none-from : {A : Type 0} (o : Option A) → is_none o ≡ true → o ≡ None
none-from None e = refl
none-from (Some x) e = absurd (true≢false (sym e))

pub written : (path : Path) (entry : Entry) (tree new : TreeMap) → with_entry path entry tree ≡ Some new → IsWritten path entry tree new
written path entry tree new is = by (is_directory (get tree (climbed path)) && is_none (clash_of (get tree path) entry)) refl is
  where
    by : (b : Bool) → (is_directory (get tree (climbed path)) && is_none (clash_of (get tree path) entry)) ≡ b → cond b (Some (insert tree path entry)) None ≡ Some new → IsWritten path entry tree new
    by true both s = record { clash = none-from _ (both_second (is_directory (get tree (climbed path))) _ both); map = sym (same_Some (insert tree path entry) new s) }
    by false both s = absurd (true≢false (sym (ap is_some s)))

pub and-then-some : {A B : Type 0} (f : A → Option B) (o : Option A) (y : B) → option_and_then f o ≡ Some y → (x : A) × ((o ≡ Some x) × (f x ≡ Some y))
and-then-some f None y e = absurd (true≢false (sym (ap is_some e)))
and-then-some f (Some x) y e = (x, (refl, e))

-- ---- all entries

none-found : (r : Path) (rows : Rows) → below_all path_cmp r rows ≡ true → find path_cmp r rows ≡ None
none-found r [] s = refl
none-found r (row ∷ rows) s = ap (λ x. cond (is_eq x) (Some row.1) (find path_cmp r rows)) (less (path_cmp r row.0) (both_first _ _ s)) ∙ none-found r rows (both_second (is_lt (path_cmp r row.0)) _ s)
  where
    less : (x : Ordering) → is_lt x ≡ true → x ≡ Less
    less Less e = refl
    less Equal e = absurd (true≢false (sym e))
    less Greater e = absurd (true≢false (sym e))

first-step : (row : Path × Entry) (rows : Rows) (tree new : TreeMap) → with_entries keeping [] (row ∷ rows) tree ≡ Some new
    → (mid : TreeMap) × (IsWritten row.0 row.1 tree mid × (with_entries keeping [] rows mid ≡ Some new))
first-step row rows tree new is =
    let parts = and-then-some (with_entries keeping [] rows) (with_entry row.0 (set_entry keeping row.1) tree) new is in
    (parts.0, (written row.0 row.1 tree parts.0 (ap (λ e. with_entry row.0 e tree) (sym (set-nothing row.1)) ∙ parts.1.0), parts.1.1))

-- what stands after entries were copied: theirs, and else what stood
pub entries-stand : (rows : Rows) (tree new : TreeMap) (q : Path) → is_sorted path_cmp rows ≡ true → with_entries keeping [] rows tree ≡ Some new → get new q ≡ option_or (find path_cmp q rows) (get tree q)
entries-stand [] tree new q sorted is = ap (λ t. get t q) (sym (same_Some tree new is))
entries-stand (row ∷ rows) tree new q sorted is =
    let step = first-step row rows tree new is in
    entries-stand rows step.0 new q (both_second (below_all path_cmp row.0 rows) _ sorted) step.1.1
    ∙ ap (option_or (find path_cmp q rows)) (ap (λ t. get t q) step.1.0.map ∙ get-insert path_cmp_total tree row.0 row.1 q)
    ∙ by (eq_by_cmp path_cmp q row.0) refl
  where
    skipped : (o : Option Entry) → option_or o (get tree q) ≡ option_or (cond false (Some row.1) o) (get tree q)
    skipped o = refl

    by : (tie : Bool) → eq_by_cmp path_cmp q row.0 ≡ tie → option_or (find path_cmp q rows) (cond tie (Some row.1) (get tree q)) ≡ option_or (cond tie (Some row.1) (find path_cmp q rows)) (get tree q)
    by true t = ap (λ o. option_or o (Some row.1)) (ap (λ x. find path_cmp x rows) (path_same q row.0 t) ∙ none-found row.0 rows (both_first _ _ sorted))
    by false t = refl

no-folder : (o : Option Entry) (e : Entry) → clash_of o e ≡ None → is_file (Some e) ≡ true → is_directory o ≡ false
no-folder None e c f = refl
no-folder (Some (Directory m)) (Directory n) c f = absurd (true≢false (sym f))
no-folder (Some (Directory m)) (File n b) c f = absurd (true≢false (ap is_some c))
no-folder (Some (File m b)) e c f = refl

-- a file that was copied met no folder
pub no-folder-met : (rows : Rows) (tree new : TreeMap) (f : Path) → with_entries keeping [] rows tree ≡ Some new → is_file (find path_cmp f rows) ≡ true → is_directory (get tree f) ≡ false
no-folder-met [] tree new f is file = absurd (true≢false (sym file))
no-folder-met (row ∷ rows) tree new f is file =
    let step = first-step row rows tree new is in
    by (eq_by_cmp path_cmp f row.0) refl file step.1.0 (no-folder-met rows step.0 new f step.1.1)
  where
    by : (tie : Bool) → eq_by_cmp path_cmp f row.0 ≡ tie → is_file (cond tie (Some row.1) (find path_cmp f rows)) ≡ true → {mid : TreeMap} → IsWritten row.0 row.1 tree mid
        → (is_file (find path_cmp f rows) ≡ true → is_directory (get mid f) ≡ false) → is_directory (get tree f) ≡ false
    by true t there {mid} w later = ap (λ q. is_directory (get tree q)) (path_same f row.0 t) ∙ no-folder (get tree row.0) row.1 w.clash there
    by false t there {mid} w later =
        ap is_directory (sym (ap (λ m. get m f) w.map ∙ get-insert path_cmp_total tree row.0 row.1 f ∙ ap (λ b. cond b (Some row.1) (get tree f)) t)) ∙ later there

-- ---- a whole tree

is-true : (b : Bool) → T b → b ≡ true
is-true true h = refl
is-true false h = absurd h

-- what is like a tree below the root is one
pub alike-tree : (one other : TreeMap) → AreAlike one other → IsTree other → IsTree one
alike-tree one other alike is = record {
  clean = λ path some. clean path some;
  root = alike.root;
  parents = λ front path f some. parents front path f some;
}
  where
    clean : (path : Path) → is_some (get one path) ≡ true → Rattle.paths.specs.Path.IsClean path
    clean [] some = is.clean [] (some-from (get other []) is.root)
      where
        some-from : (o : Option Entry) → is_directory o ≡ true → is_some o ≡ true
        some-from None d = d
        some-from (Some e) d = refl
    clean (c ∷ cs) some = is.clean (c ∷ cs) (ap is_some (sym (alike.below c cs)) ∙ some)

    parents : (front path : Path) → is_front front path ≡ true → is_some (get one path) ≡ true → is_directory (get one front) ≡ true
    parents [] path f some = alike.root
    parents (d ∷ ds) [] f some = absurd (true≢false (sym f))
    parents (d ∷ ds) (c ∷ cs) f some = ap is_directory (alike.below d ds) ∙ is.parents (d ∷ ds) (c ∷ cs) f (ap is_some (sym (alike.below c cs)) ∙ some)

whole-below : (tree : TreeMap) → IsTree tree → map_below tree [] ≡ tree
whole-below tree is = by (get tree []) refl (subtree-root tree is)
  where
    by : (o : Option Entry) → get tree [] ≡ o → directory_tree o (map_below tree []) ≡ Ok tree → map_below tree [] ≡ tree
    by None at e = cc
    by (Some (File m c)) at e = cc
    by (Some (Directory m)) at e = cc

rows-of : (tree : TreeMap) → IsTree tree → (c : List ℕ) (cs : Path) → (find path_cmp (c ∷ cs) (drop 1 (entries (map_below tree []))) ≡ get tree (c ∷ cs)) × (is_sorted path_cmp (drop 1 (entries (map_below tree []))) ≡ true)
rows-of tree is c cs = by (get tree []) refl is.root
  where
    by : (o : Option Entry) → get tree [] ≡ o → is_directory o ≡ true → (find path_cmp (c ∷ cs) (drop 1 (entries (map_below tree []))) ≡ get tree (c ∷ cs)) × (is_sorted path_cmp (drop 1 (entries (map_below tree []))) ≡ true)
    by None at d = absurd (true≢false (sym d))
    by (Some own) at d =
        let first = own-first tree own at in
        let rows : drop 1 (entries (map_below tree [])) ≡ first.below = ap (λ t. drop 1 (entries t)) (whole-below tree is) ∙ ap (drop 1) first.whole in (
          ap (find path_cmp (c ∷ cs)) rows ∙ sym (get-entries tree (c ∷ cs) ∙ ap (find path_cmp (c ∷ cs)) first.whole),
          ap (is_sorted path_cmp) rows ∙ both_second (below_all path_cmp [] first.below) _ (ap (is_sorted path_cmp) (sym first.whole) ∙ is-true _ (entries_sorted tree)),
        )

-- a whole tree, copied onto one that is like another one, leaves what is like laying it over that one
pub copied-alike : (tree lower upper new : TreeMap) → AreAlike tree lower → IsTree lower → IsTree upper → with_entries keeping [] (drop 1 (entries (map_below upper []))) tree ≡ Some new → is_directory (get new []) ≡ true
    → AreAlike new (over lower upper)
copied-alike tree lower upper new alike is upper_is done root = record { root = root; below = below }
  where
    tree_is : IsTree tree
    tree_is = alike-tree tree lower alike is

    rows : Rows
    rows = drop 1 (entries (map_below upper []))

    open-way : (c : List ℕ) (cs : Path) → is_some (get tree (c ∷ cs)) ≡ true → is_blocked (get upper) (c ∷ cs) ≡ false
    open-way c cs some = open-from_fronts (get upper) (c ∷ cs) (λ f g. not-true (is_file (get upper f)) (met f g))
      where
        met : (f : Path) → is_front f (c ∷ cs) ≡ true → is_file (get upper f) ≡ true → ⊥
        met [] g file = true≢false (sym file ∙ no-root (get upper []) upper_is.root)
          where
            no-root : (o : Option Entry) → is_directory o ≡ true → is_file o ≡ false
            no-root None d = refl
            no-root (Some (Directory m)) d = refl
            no-root (Some (File m b)) d = absurd (true≢false (sym d))
        met (d ∷ ds) g file =
            true≢false (sym (tree_is.parents (d ∷ ds) (c ∷ cs) g some) ∙ no-folder-met rows tree new (d ∷ ds) done (ap is_file ((rows-of upper upper_is d ds).0) ∙ file))

    below : (c : List ℕ) (cs : Path) → get new (c ∷ cs) ≡ get (over lower upper) (c ∷ cs)
    below c cs =
        let found = rows-of upper upper_is c cs in
        entries-stand rows tree new (c ∷ cs) found.1 done
        ∙ ap (λ o. option_or o (get tree (c ∷ cs))) found.0
        ∙ by (get upper (c ∷ cs)) (get tree (c ∷ cs)) refl (is_blocked (get upper) (c ∷ cs)) refl
        ∙ ap (λ x. option_or (get upper (c ∷ cs)) (cond (is_blocked (get upper) (c ∷ cs)) None x)) (alike.below c cs)
        ∙ sym (get-over lower upper (c ∷ cs))
      where
        by : (u t : Option Entry) → get tree (c ∷ cs) ≡ t → (shut : Bool) → is_blocked (get upper) (c ∷ cs) ≡ shut → option_or u t ≡ option_or u (cond shut None t)
        by (Some e) t at shut s = refl
        by None None at true s = refl
        by None None at false s = refl
        by None (Some e) at true s = absurd (true≢false (sym s ∙ open-way c cs (ap is_some at)))
        by None (Some e) at false s = refl

-- the root stays as it was
pub root-same : (tree upper new : TreeMap) → IsTree tree → IsTree upper → with_entries keeping [] (drop 1 (entries (map_below upper []))) tree ≡ Some new → get new [] ≡ get tree []
root-same tree upper new is upper_is done = by (get upper []) refl upper_is.root
  where
    by : (o : Option Entry) → get upper [] ≡ o → is_directory o ≡ true → get new [] ≡ get tree []
    by None at d = absurd (true≢false (sym d))
    by (Some own) at d =
        let first = own-first upper own at in
        let rows : drop 1 (entries (map_below upper [])) ≡ first.below = ap (λ t. drop 1 (entries t)) (whole-below upper upper_is) ∙ ap (drop 1) first.whole in
        let sorted : is_sorted path_cmp (drop 1 (entries (map_below upper []))) ≡ true =
        ap (is_sorted path_cmp) rows ∙ both_second (below_all path_cmp [] first.below) _ (ap (is_sorted path_cmp) (sym first.whole) ∙ is-true _ (entries_sorted upper)) in
        entries-stand (drop 1 (entries (map_below upper []))) tree new [] sorted done
        ∙ ap (λ o. option_or o (get tree [])) (ap (find path_cmp []) rows ∙ none-found [] first.below first.lower)

pub root-stays : (tree upper new : TreeMap) → IsTree tree → IsTree upper → with_entries keeping [] (drop 1 (entries (map_below upper []))) tree ≡ Some new → is_directory (get new []) ≡ true
root-stays tree upper new is upper_is done = ap is_directory (root-same tree upper new is upper_is done) ∙ is.root
