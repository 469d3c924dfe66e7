-- From open folders to what a tree's builder promises.
use Rattle.std.specs.Prelude.{◌≡◌, ◌-◌, ◌<◌, ◌≤◌, ℕ, Bool, true, false, not, cond, Some, None, Ok, List, [], ◌∷◌, ◌++◌, length}
use Rattle.std.proofs.Common.{sym, ap, refl, ◌∙◌, subst, true≢false, arith}
use Rattle.std.proofs.lemmas.Bool.Decides.{nat_tests}
use Rattle.std.specs.Ordering.{eq_by_cmp}
use Rattle.std.specs.FinMap.{get}
use Rattle.paths.specs.Order.{path_cmp}
use Rattle.paths.specs.Path.{IsClean}
use Rattle.trees.specs.declared.entry.Entry.{Entry}
use Rattle.trees.specs.declared.entry.Entry.TheVariants.{Directory, File}
use Rattle.trees.specs.TreeMap.{IsTree, directory_meta, empty_tree, is_directory, is_file, is_blocked}
use Rattle.trees.specs.Put.{planted, clash_of}
use Rattle.trees.specs.Builder.{Built, none_built, comes_next, with_row, AddsRow}
use Rattle.trees.specs.PrivateNode.{map_of, node_of}
use Rattle.trees.specs.PrivateSpine.{OpenValue, shut, first_map, whole, last_of, IsSpine, AreShut, opened, IsAdded, Adds}
use Rattle.trees.proofs.WayLaws.{open-from_fronts}
use Rattle.trees.proofs.TreeLaws.{placed-IsTree, empty-IsTree, get-empty_tree}
use Rattle.trees.proofs.TreeSteps.{placed-from_planted}
use Rattle.trees.proofs.GrowingSteps.{one-grown}
use Rattle.trees.proofs.SpineSteps.{Hangs, hangs, spine-opened, names-opened, end-opened, end-is}
use Rattle.trees.proofs.ForkSteps.{same-last}

abbrev Path : Type 0
Path = List (List ℕ)

abbrev Folders : Type 0
Folders = List OpenValue

-- ---- the first row

-- what a test of the path and of the entry says
pub root-file : (path : Path) (entry : Entry) (dir : Bool) → length path < 1 → dir ≡ is_directory (Some entry) → comes_next None (path, entry) ≡ not (not dir)
root-file (n ∷ path) entry dir few is = absurd (omega arith)
root-file [] entry dir few is = by entry ∙ ap (λ b. not (not b)) (sym is)
  where
    by : (entry : Entry) → not (is_file (Some entry)) ≡ not (not (is_directory (Some entry)))
    by (Directory m) = refl
    by (File m c) = refl

pub no-root-file : (path : Path) (entry : Entry) → 1 ≤ length path → comes_next None (path, entry) ≡ true
no-root-file [] entry some = absurd (omega arith)
no-root-file (n ∷ path) entry some = refl

pub not-begun : (old : Folders) (path : Path) (entry : Entry) → old ≡ [] → comes_next None (path, entry) ≡ false → Adds old old path entry false
not-begun old path entry none not_next = (ap (λ l. comes_next (last_of l) (path, entry)) none ∙ not_next, refl)

no-file : (q : Path) → is_file (get empty_tree q) ≡ false
no-file q = ap is_file (get-empty_tree q) ∙ by (eq_by_cmp path_cmp q [])
  where
    by : (b : Bool) → is_file (cond b (Some (Directory directory_meta)) None) ≡ false
    by true = refl
    by false = refl

first-clash : (path : Path) (entry : Entry) → comes_next None (path, entry) ≡ true → clash_of (get empty_tree path) entry ≡ None
first-clash [] entry dir = ap (λ o. clash_of o entry) (get-empty_tree []) ∙ by entry dir
  where
    by : (entry : Entry) → not (is_file (Some entry)) ≡ true → clash_of (Some (Directory directory_meta)) entry ≡ None
    by (Directory m) d = refl
    by (File m c) d = absurd (true≢false (sym d))
first-clash (n ∷ path) entry dir = ap (λ o. clash_of o entry) (get-empty_tree (n ∷ path))

first-last : (root : List ℕ) (path : Path) (entry : Entry) → last_of (opened root path entry) ≡ Some (path, entry)
first-last root [] entry = refl
first-last root (n ∷ path) entry =
    let folder : OpenValue = record { name = root; top = Directory directory_meta; kids = [] } in
    end-is folder (opened n path entry) root (n ∷ path) entry (ap (λ l. root ∷ l) (names-opened n path entry)) (end-opened folder n path entry)

pub begun : (old new : Folders) (root : List ℕ) (path : Path) (entry : Entry) → old ≡ [] → comes_next None (path, entry) ≡ true → new ≡ old ++ opened root path entry → IsAdded old new path entry
begun old new root path entry none dir pushed = record {
  next = ap (λ l. comes_next (last_of l) (path, entry)) none ∙ dir;
  last = ap last_of new-is ∙ first-last root path entry;
  spine = subst IsSpine (sym new-is) (spine-opened root path entry);
  free = record { way = ap (λ l. is_blocked (get (whole l)) path) none ∙ open-from_fronts (get empty_tree) path (λ f g. no-file f); clash = ap (λ l. clash_of (get (whole l) path) entry) none ∙ first-clash path entry dir };
  planted = record { at = λ q. ap (λ m. get m q) new-whole ∙ h.planted.at q ∙ one-grown path entry q ∙ ap (λ l. planted (get (whole l)) path directory_meta entry q) (sym none) };
}
  where
    h : Hangs root path entry
    h = hangs root path entry

    new-is : new ≡ opened root path entry
    new-is = pushed ∙ ap (λ l. l ++ opened root path entry) none

    new-whole : whole new ≡ map_of h.node
    new-whole = ap whole new-is ∙ ap first_map h.is

-- ---- the builder

abbrev pub value : Folders → Built
value all = record { tree = whole all; last = last_of all }

abbrev pub Holds : Folders → Type 0
Holds all = IsSpine all × IsTree (whole all)

pub none-holds : (all : Folders) → all ≡ [] → Holds all
none-holds all none = subst Holds (sym none) (tt, empty-IsTree)

pub adds-holds : (old new : Folders) (path : Path) (entry : Entry) (added : Bool) → Holds old → IsClean path → Adds old new path entry added → Holds new
adds-holds old new path entry true h clean a = (
  a.spine,
  subst IsTree (sym (placed-from_planted (whole old) (whole new) path directory_meta entry a.planted))
      (placed-IsTree directory_meta (whole old) path entry h.1 clean (record { few = (let f : length path ≤ 64 = clean.few in grind (arith, nat_tests)); way = a.free.way; clash = a.free.clash })),
)
adds-holds old new path entry false h clean a = subst Holds (sym a.1) h

pub adds-row : (old new : Folders) (path a : Path) (entry : Entry) (added : Bool) (built : Built) → value old ≡ built → a ≡ path → Adds old new a entry added → AddsRow built (path, entry) (value new) (Ok added)
adds-row old new path a entry true built view same h = (
  sym ((λ i. comes_next ((sym view i).last) (sym same i, entry)) ∙ h.next),
  (λ i. record { tree = placed-from_planted (whole old) (whole new) a directory_meta entry h.planted i; last = h.last i }) ∙ (λ i. with_row (view i) (same i, entry)),
)
adds-row old new path a entry false built view same h = (sym ((λ i. comes_next ((sym view i).last) (sym same i, entry)) ∙ h.0), ap value h.1 ∙ view)

pub none-value : (all : Folders) → all ≡ [] → value all ≡ none_built
none-value all none = ap value none

-- the root's node, once all below it are closed
pub root-whole : (old new front : Folders) (root : OpenValue) (count : ℕ) → 0 < length old → count ≡ length old - 1 → AreShut old new count → new ≡ front ++ root ∷ [] → map_of (node_of root.top root.kids) ≡ whole old
root-whole [] new front root count some is h popped = absurd (omega arith)
root-whole (folder ∷ more) new front root count some is h popped =
    let shut_is : new ≡ shut folder more ∷ [] = h.at [] folder more refl (omega arith) in
    ap (λ (o : OpenValue). map_of (node_of o.top o.kids)) (same-last front [] root (shut folder more) (sym popped ∙ shut_is))

-- there is one
pub root-there : {A : Type 0} (old new : Folders) (count : ℕ) → 0 < length old → count ≡ length old - 1 → AreShut old new count → length new < 1 → A
root-there [] new count some is h few = absurd (omega arith)
root-there (folder ∷ more) new count some is h few = absurd (let l : length new ≡ 1 = ap length (h.at [] folder more refl (omega arith)) in omega arith)
