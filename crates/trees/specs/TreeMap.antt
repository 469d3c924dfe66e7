-- What a tree of files is: a finite map from paths to entries.
--
-- A path is the list of its components, each as its bytes; the root is the empty list. Nothing here knows how a tree is
-- stored, and two trees are equal where they have equal entries at equal paths.
use Rattle.std.specs.Prelude.{◌≡◌, ℕ, Bool, true, false, Option, Some, None, List, [], is_some}
use Rattle.std.specs.List.{list_any}
use Rattle.std.specs.FinMap.{FinMap, get, insert, empty}
use Rattle.paths.specs.Order.{path_cmp}
use Rattle.paths.specs.Path.{IsClean}
use Rattle.paths.specs.Fronts.{is_front, fronts}
use Rattle.trees.specs.declared.meta.Meta.{Meta}
use Rattle.trees.specs.declared.entry.Entry.{Entry}
use Rattle.trees.specs.declared.entry.Entry.TheVariants.{Directory, File}

-- 0755, owner 0:0: a directory for which nothing else is said
abbrev pub directory_meta : Meta
directory_meta = record { mode = 493; uid = 0; gid = 0 }

-- 0644, owner 0:0: a file for which nothing else is said
abbrev pub file_meta : Meta
file_meta = record { mode = 420; uid = 0; gid = 0 }

-- a finite map from paths to entries
abbrev pub TreeMap : Type 0
TreeMap = FinMap path_cmp Entry

-- a directory stands there
abbrev pub is_directory : Option Entry → Bool
is_directory None = false
is_directory (Some (Directory meta)) = true
is_directory (Some (File meta content)) = false

-- a file stands there
abbrev pub is_file : Option Entry → Bool
is_file None = false
is_file (Some (Directory meta)) = false
is_file (Some (File meta content)) = true

-- an entry's mode and owner
abbrev pub meta_of : Entry → Meta
meta_of (Directory meta) = meta
meta_of (File meta content) = meta

-- whether a file stands on the way to a path
abbrev pub is_blocked : (List (List ℕ) → Option Entry) → List (List ℕ) → Bool
is_blocked at path = list_any (λ front. is_file (at front)) (fronts path)

-- A tree: its paths are clean, its root is a directory, and every proper front of a path in it is a directory in it.
pub record IsTree (tree : TreeMap) : Type 0 where
  pub clean : (path : List (List ℕ)) → is_some (get tree path) ≡ true → IsClean path
  pub root : is_directory (get tree []) ≡ true
  pub parents : (front path : List (List ℕ)) → is_front front path ≡ true → is_some (get tree path) ≡ true → is_directory (get tree front) ≡ true

-- just the root, a directory with 0755 and owner 0:0: what `FROM scratch` begins with
abbrev pub empty_tree : TreeMap
empty_tree = insert empty [] (Directory directory_meta)
