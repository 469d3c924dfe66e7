-- From the steps of a tree's code to what its calls promise.
use Rattle.std.specs.Prelude.{◌≡◌, ℕ, Bool, true, false, Some, None, Result, Ok, Err, OnOk, OnErr, List, []}
use Rattle.std.proofs.Common.{sym, ap, refl, ◌∙◌, subst, true≢false}
use Rattle.std.specs.FinMap.{get, empty, insert}
use Rattle.paths.specs.Path.{IsClean}
use Rattle.trees.specs.declared.meta.Meta.{Meta}
use Rattle.trees.specs.declared.entry.Entry.{Entry}
use Rattle.trees.specs.declared.entry.Entry.TheVariants.{Directory, File}
use Rattle.trees.specs.declared.cause.Cause.TheVariants.{F1, F2}
use Rattle.trees.specs.TreeMap.{TreeMap, IsTree, is_directory, is_file, meta_of, empty_tree, directory_meta}
use Rattle.trees.specs.Subtree.{subtree}
use Rattle.trees.specs.PrivateNode.{IsBelow}
use Rattle.trees.proofs.SubtreeLaws.{subtree-missing, subtree-file, subtree-directory, own-below, below-IsTree}
use Rattle.trees.specs.Put.{placed, cause_at}
use Rattle.trees.specs.PrivateNode.{NodeValue, map_of, IsPlanted}
use Rattle.trees.proofs.TreeLaws.{same_tree, get-placed, free-from_cause, placed-IsTree, empty-IsTree}
use Rattle.trees.proofs.NodeLaws.{get-map_of_root}

-- where an entry was put stands the tree after a placement
pub placed-from_planted : (old new : TreeMap) (path : List (List ℕ)) (parent : Meta) (entry : Entry) → IsPlanted (get old) new path parent entry → new ≡ placed parent old path entry
placed-from_planted old new path parent entry h = same_tree _ _ (λ q. h.at q ∙ sym (get-placed parent old path entry q))

IsTree-planted : (old new : TreeMap) (path : List (List ℕ)) (parent : Meta) (entry : Entry) → IsTree old → IsClean path → cause_at (get old) path entry ≡ None → IsPlanted (get old) new path parent entry → IsTree new
IsTree-planted old new path parent entry tree clean none h =
    subst IsTree (sym (placed-from_planted old new path parent entry h)) (placed-IsTree parent old path entry tree clean (free-from_cause (get old) path entry none))

-- a placement in whose way nothing stands, a being the path as it was lent
pub place-kept : {E : Type 0} (old new value : TreeMap) (path a : List (List ℕ)) (parent : Meta) (entry : Entry) (result : Result (Unit {0}) E) → old ≡ value → a ≡ path → IsTree old → IsClean path → cause_at (get value) path entry ≡ None → OnOk result (IsPlanted (get old) new a parent entry) → OnErr result (new ≡ old)
    → IsTree new
place-kept old new value path a parent entry (Ok done) view same tree clean free h kept =
    IsTree-planted old new a parent entry tree (subst IsClean (sym same) clean) ((λ i. cause_at (get (view i)) (same i) entry) ∙ free) h
place-kept old new value path a parent entry (Err why) view same tree clean free h kept = subst IsTree (sym kept) tree

pub place-done : (old new value : TreeMap) (path a : List (List ℕ)) (parent : Meta) (entry : Entry) → old ≡ value → a ≡ path → parent ≡ directory_meta → IsPlanted (get old) new a parent entry → new ≡ placed directory_meta value path entry
place-done old new value path a parent entry view same meta h = placed-from_planted old new a parent entry h ∙ (λ i. placed (meta i) (view i) (same i) entry)

-- a leaf that is a plain directory stands for the empty tree
pub leaf-empty : (leaf : NodeValue) → leaf.top ≡ Directory directory_meta → leaf.below ≡ empty → map_of leaf ≡ empty_tree
leaf-empty leaf t b = λ i. insert (b i) [] (t i)

pub IsTree-leaf : (leaf : NodeValue) → leaf.top ≡ Directory directory_meta → leaf.below ≡ empty → IsTree (map_of leaf)
IsTree-leaf leaf t b = subst IsTree (sym (leaf-empty leaf t b)) empty-IsTree

directory-meta : (top : Entry) → is_directory (Some top) ≡ true → Some top ≡ Some (Directory (meta_of top))
directory-meta (Directory m) d = refl
directory-meta (File m c) d = absurd (true≢false (sym d))

-- the root's entry is a directory with the root's meta
pub root-directory : (root : NodeValue) (meta : Meta) → IsTree (map_of root) → meta ≡ meta_of root.top → get (map_of root) [] ≡ Some (Directory meta)
root-directory root meta tree is =
    get-map_of_root root ∙ directory-meta root.top (ap is_directory (sym (get-map_of_root root)) ∙ tree.root) ∙ ap (λ m. Some (Directory m)) (sym is)

-- ---- what lies under a path

-- nothing stands there
pub under-none : (tree value : TreeMap) (a path : List (List ℕ)) → tree ≡ value → a ≡ path → get tree a ≡ None → subtree value path ≡ Err F1
under-none tree value a path view same none = (λ i. subtree (sym view i) (sym same i)) ∙ subtree-missing tree a none

no_directory : (entry : Entry) → is_directory (Some entry) ≡ false → is_file (Some entry) ≡ true
no_directory (Directory m) d = absurd (true≢false d)
no_directory (File m c) d = refl

-- what stands at the path of a node is the node's entry
pub own-entry : (tree : TreeMap) (a : List (List ℕ)) (node : NodeValue) → IsBelow tree a (map_of node) → get tree a ≡ Some node.top
own-entry tree a node lies = own-below tree a (map_of node) lies ∙ get-map_of_root node

-- a file stands there
pub under-file : (tree value : TreeMap) (a path : List (List ℕ)) (node : NodeValue) (directory : Bool) → tree ≡ value → a ≡ path → IsBelow tree a (map_of node) → directory ≡ is_directory (Some node.top) → directory ≡ false → subtree value path ≡ Err F2
under-file tree value a path node directory view same lies is not_held =
    (λ i. subtree (sym view i) (sym same i)) ∙ subtree-file tree a (ap is_file (own-entry tree a node lies) ∙ no_directory node.top (sym is ∙ not_held))

-- a directory stands there
pub under-directory : (tree value : TreeMap) (a path : List (List ℕ)) (node root : NodeValue) (directory : Bool) → tree ≡ value → a ≡ path → IsBelow tree a (map_of node) → directory ≡ is_directory (Some node.top) → directory ≡ true → root ≡ node → subtree value path ≡ Ok (map_of root)
under-directory tree value a path node root directory view same lies is held copied =
    (λ i. subtree (sym view i) (sym same i)) ∙ subtree-directory tree a (map_of node) (ap is_directory (own-entry tree a node lies) ∙ sym is ∙ held) lies ∙ (λ i. Ok (map_of (sym copied i)))

pub under-IsTree : (tree : TreeMap) (a : List (List ℕ)) (node root : NodeValue) (directory : Bool) → IsTree tree → IsBelow tree a (map_of node) → directory ≡ is_directory (Some node.top) → directory ≡ true → root ≡ node → IsTree (map_of root)
under-IsTree tree a node root directory h lies is held copied =
    subst (λ (n : NodeValue). IsTree (map_of n)) (sym copied) (below-IsTree tree a (map_of node) h (ap is_directory (own-entry tree a node lies) ∙ sym is ∙ held) lies)
