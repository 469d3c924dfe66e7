-- What lies under a path of a tree: the tree that a bind mount shows (Dockerfile reference, RUN --mount=type=bind). That a
-- missing path and a file are two causes is own.
use Rattle.std.specs.Prelude.{ℕ, Option, Some, None, Ok, Err, List, [], ◌∷◌, if◌then◌else◌, nat_eq}
use Rattle.std.specs.FinMap.{get, entries, from_entries}
use Rattle.std.specs.Cmp.Lexicographic.{pointwise}
use Rattle.trees.specs.declared.entry.Entry.{Entry}
use Rattle.trees.specs.declared.entry.Entry.TheVariants.{Directory, File}
use Rattle.trees.specs.declared.cause.Cause.TheVariants.{F1, F2}
use Rattle.trees.specs.TreeMap.{TreeMap}
use Rattle.trees.specs.Cause.{TreeOrCause}

-- what a path is called from a front of it; none where it isn't at or below that front
abbrev pub path_below : List (List ℕ) → List (List ℕ) → Option (List (List ℕ))
path_below [] path = Some path
path_below (d ∷ ds) [] = None
path_below (d ∷ ds) (c ∷ cs) = if pointwise nat_eq d c then path_below ds cs else None

-- an entry with its new path, if it has one, before others
abbrev pub with_entry : Option (List (List ℕ)) → Entry → List (List (List ℕ) × Entry) → List (List (List ℕ) × Entry)
with_entry None entry rest = rest
with_entry (Some path) entry rest = (path, entry) ∷ rest

-- the entries at or below a path, by their paths from there
abbrev pub entries_below : List (List ℕ) → List (List (List ℕ) × Entry) → List (List (List ℕ) × Entry)
entries_below top [] = []
entries_below top (e ∷ es) = with_entry (path_below top e.0) e.1 (entries_below top es)

-- the tree of a directory, by what stands at its path: F1 where that is nothing, F2 where it is a file
abbrev pub directory_tree : Option Entry → TreeMap → TreeOrCause
directory_tree None below = Err F1
directory_tree (Some (File meta content)) below = Err F2
directory_tree (Some (Directory meta)) below = Ok below

-- what lies at and below a path, as a map of the paths from there
abbrev pub map_below : TreeMap → List (List ℕ) → TreeMap
map_below tree path = from_entries (entries_below path (entries tree))

-- what lies under a path, its own entry being the root
abbrev pub subtree : TreeMap → List (List ℕ) → TreeOrCause
subtree tree path = directory_tree (get tree path) (map_below tree path)
