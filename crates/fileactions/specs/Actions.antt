-- What an operation on files of BuildKit gives: its actions one after another, on the trees of its inputs and on those that other actions made
-- (BuildKit's LLB, `FileOp`; solver/llbsolver/ops/file.go).
use Rattle.std.specs.Prelude.{ℕ, zero, suc, ◌+◌, ℤ, pos, negsuc, Bool, false, ◌&&◌, ◌||◌, Option, Some, None, List, [], ◌∷◌, ◌++◌, length, is_some, ◌==◌, slice_get, option_and_then, if◌then◌else◌}
use Rattle.std.specs.FinMap.{get, insert}
use Rattle.plain.specs.declared.owner.Owner.{Owner}
use Rattle.trees.specs.declared.meta.Meta.{Meta}
use Rattle.trees.specs.declared.entry.Entry.TheVariants.{File}
use Rattle.trees.specs.TreeMap.{TreeMap, empty_tree, is_directory}
use Rattle.trees.specs.Copy.{with_owner}
use Rattle.paths.specs.Path.{climbed}
use Rattle.llbmessages.specs.declared.file.MakeFileAction.{MakeFileAction}
use Rattle.llbmessages.specs.declared.file.MakeDirAction.{MakeDirAction}
use Rattle.llbmessages.specs.declared.file.FileActionKind.{FileActionKind}
use Rattle.llbmessages.specs.declared.file.FileActionKind.TheVariants.{Copy, MakeFile, MakeDir}
use Rattle.llbmessages.specs.declared.file.FileAction.{FileAction}
use Rattle.fileactions.specs.Copying.{Outcome, with_folder}
use Rattle.fileactions.specs.Copies.{Finder, path_of, is_clean_text, owner_of, can_be_set, copied_by}

-- what is made: root's, if no owner is set, and 0755 or 0644, which the masks of engines leave; other modes aren't modelled
abbrev pub made_meta : Option Owner → ℤ → Option Meta
made_meta owner (pos bits) =
    if bits == 493 || bits == 420 then Some (with_owner owner (record { mode = bits; uid = 0; gid = 0 })) else None
made_meta owner (negsuc n) = None

-- a folder with those above it (`mkdir`); nothing for one without these
unfoldable pub folder_by : MakeDirAction → TreeMap → Outcome
folder_by dir tree =
    if dir.make_parents && (can_be_set dir.owner && is_clean_text dir.path)
    then option_and_then (λ meta. with_folder meta (path_of dir.path) tree) (made_meta (owner_of dir.owner) dir.mode)
    else None

-- a file in a folder that is there (`mkfile`); nothing if something stands at its path, which isn't modelled
unfoldable pub file_by : MakeFileAction → TreeMap → Outcome
file_by file tree =
    if is_directory (get tree (climbed (path_of file.path))) && (can_be_set file.owner && is_clean_text file.path)
    then if is_some (get tree (path_of file.path)) then None
    else option_and_then (λ meta. Some (insert tree (path_of file.path) (File meta file.«data»))) (made_meta (owner_of file.owner) file.mode)
    else None

-- an action of a kind, on a tree, with another one to copy from
abbrev pub kind_by : Finder → FileActionKind → TreeMap → TreeMap → Outcome
kind_by finder (Copy copy) from tree = copied_by finder copy from tree
kind_by finder (MakeFile file) from tree = file_by file tree
kind_by finder (MakeDir dir) from tree = folder_by dir tree

-- the tree of a number among those of the inputs and of the actions so far; the empty tree for -1 (`getInput`)
abbrev pub tree_at : List TreeMap → ℤ → Option TreeMap
tree_at trees (pos number) = slice_get trees number
tree_at trees (negsuc zero) = Some empty_tree
tree_at trees (negsuc (suc n)) = None

-- one action
abbrev pub action_by : Finder → FileAction → List TreeMap → Outcome
action_by finder action trees =
    option_and_then (λ tree. option_and_then (λ from. kind_by finder action.kind from tree) (tree_at trees action.secondary_input)) (tree_at trees action.input)

-- whether an action's tree is the operation's
abbrev pub is_output : ℤ → Bool
is_output (pos number) = number == 0
is_output (negsuc n) = false

-- whether it is none
abbrev pub is_none_output : ℤ → Bool
is_none_output (pos number) = false
is_none_output (negsuc n) = n == 0

-- What actions give one after another, where all of them succeed, on the trees of the inputs and of the actions before. BuildKit does only those that the
-- output needs, and each of ours is needed
abbrev pub actions_by : Finder → List TreeMap → List FileAction → Option (List TreeMap)
actions_by finder trees [] = Some trees
actions_by finder trees (action ∷ actions) =
    option_and_then (λ tree. actions_by finder (trees ++ tree ∷ []) actions) (action_by finder action trees)

-- whether the last action's tree is the operation's and no other one's is any output (`Solve`); else it isn't modelled
abbrev pub is_last_output : List FileAction → Bool
is_last_output [] = false
is_last_output (action ∷ []) = is_output action.output
is_last_output (action ∷ next ∷ actions) = is_none_output action.output && is_last_output (next ∷ actions)

-- the number of the first action whose tree is the operation's; how many actions there are if there is none
abbrev pub output_number : List FileAction → ℕ
output_number [] = 0
output_number (action ∷ actions) = if is_output action.output then 0 else suc (output_number actions)

-- an operation's tree, on those of its inputs
unfoldable pub operation_by : Finder → List TreeMap → List FileAction → Outcome
operation_by finder inputs actions =
    if is_last_output actions
    then option_and_then (λ trees. slice_get trees (length inputs + output_number actions)) (actions_by finder inputs actions)
    else None
