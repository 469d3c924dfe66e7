-- What a copy action of BuildKit does to a tree of folders and files: a model of BuildKit's code, read off it, and not proved of it (BuildKit 0.13,
-- `docopy` in solver/llbsolver/file/backend.go; `Copy` in copy/copy.go and `MkdirAll` in copy/mkdir.go of tonistiigi/fsutil).
--
-- BuildKit 0.8 sets only the bits 0777 of a mode. The model is of trees that a system can hold and that hold nothing else: no links, devices, times and
-- extended attributes, no owner of 4294967295, which is none to a system, and no path or name that a system doesn't take. In a folder with the bit 02000
-- a system gives what is made that folder's group; the model is of trees without it. What an engine keeps of the root's mode and owner from one
-- operation to the next is up to where it keeps trees.
use Rattle.std.specs.Prelude.{ℕ, ◌-◌, Bool, ◌&&◌, Option, Some, None, Ok, Err, List, [], ◌∷◌, ◌++◌, length, drop, is_none, option_and_then, if◌then◌else◌}
use Rattle.std.specs.FinMap.{get, insert, entries}
use Rattle.paths.specs.Path.{climbed}
use Rattle.trees.specs.declared.meta.Meta.{Meta}
use Rattle.trees.specs.declared.entry.Entry.{Entry}
use Rattle.trees.specs.declared.entry.Entry.TheVariants.{Directory, File}
use Rattle.plain.specs.declared.owner.Owner.{Owner}
use Rattle.trees.specs.TreeMap.{TreeMap, directory_meta, is_directory}
use Rattle.trees.specs.Cause.{TreeOrCause}
use Rattle.trees.specs.Put.{clash_of}
use Rattle.trees.specs.Make.{made_with}
use Rattle.trees.specs.Copy.{with_owner, with_mode}
use Rattle.trees.specs.Subtree.{map_below}

-- a tree, or nothing where BuildKit fails
abbrev pub Outcome : Type 0
Outcome = Option TreeMap

-- a tree, without the cause why there is none
abbrev pub outcome_of : TreeOrCause → Outcome
outcome_of (Ok tree) = Some tree
outcome_of (Err cause) = None

-- ---- what a copy sets

-- the owner and the mode that an action sets of what it copies, if it does
pub record Setting : Type 0 where
  pub owner : Option Owner
  pub mode : Option ℕ

-- an entry's mode and owner as they are set (`copyFileInfo`)
abbrev pub set_meta : Setting → Meta → Meta
set_meta setting meta = with_mode setting.mode (with_owner setting.owner meta)

-- an entry as it is copied
abbrev pub set_entry : Setting → Entry → Entry
set_entry setting (Directory meta) = Directory (set_meta setting meta)
set_entry setting (File meta content) = File (set_meta setting meta) content

-- a folder that is made: 0755, and root's if no owner is set (`MkdirAll`)
abbrev pub folder_meta : Setting → Meta
folder_meta setting = with_owner setting.owner directory_meta

-- ---- steps

-- a folder at a path and at each above it: one that is there stays, a missing one is made with this meta, and a file there fails it (`MkdirAll`)
abbrev pub with_folder : Meta → List (List ℕ) → TreeMap → Outcome
with_folder meta path tree = outcome_of (made_with meta tree path)

-- An entry at a path in a folder that is there. A file takes a file's place (`ensureEmptyFileTarget`), and a folder that is there gets the entry's mode and
-- owner (`copyDirectoryOnly`, `copyFileInfo`). Neither takes the other's place.
abbrev pub with_entry : List (List ℕ) → Entry → TreeMap → Outcome
with_entry path entry tree =
    if is_directory (get tree (climbed path)) && is_none (clash_of (get tree path) entry) then Some (insert tree path entry) else None

-- the entries of a folder and of those in it, each after the folder that it lies in, onto another folder (`copyDirectory`). Rows have their paths from
-- the first folder
abbrev pub with_entries : Setting → List (List ℕ) → List (List (List ℕ) × Entry) → TreeMap → Outcome
with_entries setting dest [] tree = Some tree
with_entries setting dest (row ∷ rows) tree =
    option_and_then (with_entries setting dest rows) (with_entry (dest ++ row.0) (set_entry setting row.1) tree)

-- ---- one path

-- where a file goes: into the destination under its own name, if a folder is there, else to the destination itself (`prepareTargetDir`)
abbrev pub target_of : TreeMap → List (List ℕ) → List (List ℕ) → List (List ℕ)
target_of tree dest path = if is_directory (get tree dest) then dest ++ drop (length path - 1) path else dest

-- a file at its target, whose folder is made if it isn't there (`prepareTargetDir`, `copy`)
abbrev pub with_file : Setting → List (List ℕ) → Entry → TreeMap → Outcome
with_file setting target entry tree =
    option_and_then (with_entry target (set_entry setting entry)) (with_folder (folder_meta setting) (climbed target) tree)

-- What stands at a path of a tree, onto the destination. It fails if nothing stands there. Of a folder, the entries are copied onto a folder at the
-- destination, which is made if nothing is there (`prepareTargetDir`, `copy`, `copyDirectory`)
abbrev pub with_found : Setting → TreeMap → List (List ℕ) → List (List ℕ) → Option Entry → TreeMap → Outcome
with_found setting from dest path None tree = None
with_found setting from dest path (Some (File meta content)) tree = with_file setting (target_of tree dest path) (File meta content) tree
with_found setting from dest path (Some (Directory meta)) tree =
    option_and_then (with_entries setting dest (drop 1 (entries (map_below from path)))) (with_folder (folder_meta setting) dest tree)

-- the folder that is there before anything is copied: the destination, if its text ends in `/`, else the one that it lies in (`Copy`)
abbrev pub first_folder : Bool → List (List ℕ) → List (List ℕ)
first_folder slash dest = if slash then dest else climbed dest

-- one path of a tree, onto a destination in another (`Copy`)
abbrev pub with_path : Bool → Setting → TreeMap → List (List ℕ) → List (List ℕ) → TreeMap → Outcome
with_path slash setting from dest path tree =
    option_and_then (with_found setting from dest path (get from path)) (with_folder (folder_meta setting) (first_folder slash dest) tree)

-- many paths, one after another (`docopy`)
abbrev pub with_paths : Bool → Setting → TreeMap → List (List ℕ) → List (List (List ℕ)) → TreeMap → Outcome
with_paths slash setting from dest [] tree = Some tree
with_paths slash setting from dest (path ∷ paths) tree =
    option_and_then (with_paths slash setting from dest paths) (with_path slash setting from dest path tree)
