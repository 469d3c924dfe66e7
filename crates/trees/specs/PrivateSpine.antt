-- The folders that are open while a tree is built, from the root down to the last row, which is the last of them even if it is a file (own).
use Rattle.std.specs.Prelude.{◌≡◌, ℕ, Bool, true, false, Option, Some, None, List, [], ◌∷◌, ◌++◌, map, length, refl}
use Rattle.std.specs.Coded.{Coded, code_by, coded×, coded_list, coded_ℕ}
use Rattle.std.specs.FinMap.{get}
use Rattle.std.specs.FinMap.Entries.{is_sorted}
use Rattle.paths.specs.Order.{name_cmp}
use Rattle.trees.specs.declared.entry.Entry.{Entry}
use Rattle.trees.specs.contracts.entry.Entry as entries_of
use Rattle.trees.specs.declared.entry.Entry.TheVariants.{Directory}
use Rattle.trees.specs.TreeMap.{TreeMap, directory_meta, empty_tree, is_directory, is_blocked}
use Rattle.trees.specs.Put.{clash_of}
use Rattle.trees.specs.Row.{Row}
use Rattle.trees.specs.Builder.{goes_on, comes_next}
use Rattle.trees.specs.PrivateNode.{NodeValue, kids_code, map_of, joined, node_of, flat, are_full, are_below, IsDepth, IsPlanted}

-- a folder, or a file that was the last row: its name, its entry, and the children that are closed
pub record OpenValue : Type 0 where
  pub name : List ℕ
  pub top : Entry
  pub kids : List (List ℕ × NodeValue)

-- its code, as the pair of its name and the rest
abbrev pub open_code : Coded OpenValue
open_code =
    code_by (List ℕ × (Entry × List (List ℕ × NodeValue))) (coded× (coded_list coded_ℕ) (coded× entries_of.the_row.coded kids_code)) (λ o. (o.name, (o.top, o.kids))) (λ p. record { name = p.0; top = p.1.0; kids = p.1.1 }) (λ _. refl)

-- children in parts, and those after them: no part is empty, the names rise, and none of their paths has more names than so
pub record AreParted (parts : List (List (List ℕ × NodeValue))) (rows : List (List ℕ × NodeValue)) (depth : ℕ) : Type 0 where
  pub full : are_full parts ≡ true
  pub rise : is_sorted name_cmp (flat parts ++ rows) ≡ true
  pub deep : IsDepth depth (joined (flat parts ++ rows))

-- rows that were moved into parts, or not: the children are the same
pub record ArePutAway (parts : List (List (List ℕ × NodeValue))) (rows : List (List ℕ × NodeValue)) (new_parts : List (List (List ℕ × NodeValue))) (new_rows : List (List ℕ × NodeValue)) : Type 0 where
  pub full : are_full new_parts ≡ true
  pub same : flat new_parts ++ new_rows ≡ flat parts ++ rows

-- a folder with one that is closed as its last child
abbrev pub held : OpenValue → OpenValue → OpenValue
held folder last = record { name = folder.name; top = folder.top; kids = folder.kids ++ (last.name, node_of last.top last.kids) ∷ [] }

-- open folders, each below the one before, as the child that the first one is
abbrev pub hanging : List OpenValue → List (List ℕ × NodeValue)
hanging [] = []
hanging (folder ∷ more) = (folder.name, node_of folder.top (folder.kids ++ hanging more)) ∷ []

-- a folder once those below it are closed
abbrev pub shut : OpenValue → List OpenValue → OpenValue
shut folder gone = record { name = folder.name; top = folder.top; kids = folder.kids ++ hanging gone }

-- the map of the first of these children
abbrev pub first_map : List (List ℕ × NodeValue) → TreeMap
first_map [] = empty_tree
first_map (kid ∷ kids) = map_of kid.1

-- the tree of open folders
abbrev pub whole : List OpenValue → TreeMap
whole all = first_map (hanging all)

-- their names
abbrev pub names_of : List OpenValue → List (List ℕ)
names_of all = map (λ folder. folder.name) all

-- the name of the first
abbrev pub first_name : List OpenValue → List ℕ
first_name [] = []
first_name (folder ∷ more) = folder.name

-- the row of the last of them, its path beginning at the first
abbrev pub end_of : OpenValue → List OpenValue → Row
end_of folder [] = ([], folder.top)
end_of folder (next ∷ more) = (next.name ∷ (end_of next more).0, (end_of next more).1)

-- the last row
abbrev pub last_of : List OpenValue → Option Row
last_of [] = None
last_of (folder ∷ more) = Some (end_of folder more)

-- the names in each folder rise, the one that is open in it being the last
abbrev pub Rise : List OpenValue → Type 0
Rise [] = Unit {0}
Rise (folder ∷ more) = (is_sorted name_cmp (folder.kids ++ hanging more) ≡ true) × Rise more

-- nothing is below the last row, and what has something open below it is a directory
abbrev pub Leads : OpenValue → List OpenValue → Type 0
Leads folder [] = folder.kids ≡ []
Leads folder (next ∷ more) = is_directory (Some folder.top) ≡ true

-- open folders as a builder has them: the names in each rise, and each leads to the next
abbrev pub IsSpine : List OpenValue → Type 0
IsSpine [] = Unit {0}
IsSpine (folder ∷ more) = (is_sorted name_cmp (folder.kids ++ hanging more) ≡ true) × (Leads folder more × IsSpine more)

-- all are directories
abbrev pub AreFolders : List OpenValue → Type 0
AreFolders [] = Unit {0}
AreFolders (folder ∷ more) = (is_directory (Some folder.top) ≡ true) × AreFolders more

-- Where the way to a path leaves the open folders: so many of them are to be closed, and the next name comes after all in the last of the
-- others. The path begins at the first folder, whose own name isn't in it.
pub record IsFork (all : List OpenValue) (path : List (List ℕ)) (count : ℕ) : Type 0 where
  pub kept : List OpenValue
  pub at : OpenValue
  pub gone : List OpenValue
  pub name : List ℕ
  pub rest : List (List ℕ)
  pub all_is : all ≡ kept ++ at ∷ gone
  pub path_is : first_name all ∷ path ≡ names_of (kept ++ at ∷ []) ++ name ∷ rest
  pub number : length gone ≡ count
  pub folders : AreFolders (kept ++ at ∷ [])
  pub after : are_below name (at.kids ++ hanging gone) ≡ true

-- a path goes on from the last of open folders, and leaves them so; or it doesn't go on
abbrev pub Forks : List OpenValue → List (List ℕ) → Option ℕ → Type 0
Forks [] path found = Unit {0}
Forks (folder ∷ more) path None = goes_on (end_of folder more) path ≡ false
Forks (folder ∷ more) path (Some count) = (goes_on (end_of folder more) path ≡ true) × IsFork (folder ∷ more) path count

-- the last folder was closed
pub record IsHeld (old new : List OpenValue) : Type 0 where
  pub at : (front : List OpenValue) (folder last : OpenValue) → old ≡ front ++ folder ∷ last ∷ [] → new ≡ front ++ held folder last ∷ []
  pub rise : Rise new

-- so many folders were closed
pub record AreShut (old new : List OpenValue) (count : ℕ) : Type 0 where
  pub at : (front : List OpenValue) (folder : OpenValue) (gone : List OpenValue) → old ≡ front ++ folder ∷ gone → length gone ≡ count → new ≡ front ++ shut folder gone ∷ []
  pub rise : Rise new

-- the folders that are opened on the way from a name to an entry
abbrev pub opened : List ℕ → List (List ℕ) → Entry → List OpenValue
opened name [] entry = record { name = name; top = entry; kids = [] } ∷ []
opened name (next ∷ rest) entry = record { name = name; top = Directory directory_meta; kids = [] } ∷ opened next rest entry

-- nothing is in the way of an entry at a path of a tree
pub record IsFreeFor (tree : TreeMap) (path : List (List ℕ)) (entry : Entry) : Type 0 where
  pub way : is_blocked (get tree) path ≡ false
  pub clash : clash_of (get tree path) entry ≡ None

-- open folders after a row came
pub record IsAdded (old new : List OpenValue) (path : List (List ℕ)) (entry : Entry) : Type 0 where
  pub next : comes_next (last_of old) (path, entry) ≡ true
  pub last : last_of new ≡ Some (path, entry)
  pub spine : IsSpine new
  pub free : IsFreeFor (whole old) path entry
  pub planted : IsPlanted (get (whole old)) (whole new) path directory_meta entry

-- a row came, or it couldn't and nothing has changed
abbrev pub Adds : List OpenValue → List OpenValue → List (List ℕ) → Entry → Bool → Type 0
Adds old new path entry true = IsAdded old new path entry
Adds old new path entry false = (comes_next (last_of old) (path, entry) ≡ false) × (new ≡ old)
