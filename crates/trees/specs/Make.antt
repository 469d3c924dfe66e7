-- A directory that is made with its parents: what WORKDIR does to a tree (Dockerfile reference, WORKDIR), and what COPY does to its
-- destination where it copies a directory.
use Rattle.std.specs.Prelude.{ℕ, ◌||◌, Option, Some, None, List, [], ◌∷◌, ◌++◌, if◌then◌else◌}
use Rattle.std.specs.FinMap.{get}
use Rattle.trees.specs.declared.meta.Meta.{Meta}
use Rattle.trees.specs.declared.entry.Entry.{Entry}
use Rattle.trees.specs.declared.cause.Cause.{Cause}
use Rattle.trees.specs.declared.cause.Cause.TheVariants.{F2}
use Rattle.paths.specs.Fronts.{fronts}
use Rattle.trees.specs.TreeMap.{TreeMap, directory_meta, is_file, is_blocked}
use Rattle.trees.specs.Cause.{TreeOrCause, tree_or}
use Rattle.trees.specs.Put.{with_missing}

-- why a directory can't be made, if it can't: a file stands on the way or at its path
abbrev pub make_cause : (List (List ℕ) → Option Entry) → List (List ℕ) → Option Cause
make_cause at path = if is_blocked at path || is_file (at path) then Some F2 else None

-- the tree with a directory of this meta at the path and at each of its fronts, where nothing stood
abbrev pub with_directory : Meta → TreeMap → List (List ℕ) → TreeMap
with_directory meta tree path = with_missing meta (fronts path ++ path ∷ []) tree

-- the same, or the cause why the directory can't be made
abbrev pub made_with : Meta → TreeMap → List (List ℕ) → TreeOrCause
made_with meta tree path = tree_or (make_cause (get tree) path) (with_directory meta tree path)

-- the tree with a directory and its parents, 0755 and 0:0 whatever the user (own); one that stands there stays as it is
abbrev pub made : TreeMap → List (List ℕ) → TreeOrCause
made tree path = made_with directory_meta tree path
