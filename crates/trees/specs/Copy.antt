-- COPY (Dockerfile reference): what it does to a tree, path by path, why it fails, and the tree after it. The limit of 64
-- components, the order of the causes, and that two files onto one path are a failure are own.
use Rattle.std.specs.Prelude.{ℕ, ◌-◌, Bool, false, ◌&&◌, ◌||◌, ◌==◌, not, Option, Some, None, Err, List, [], ◌∷◌, ◌++◌, map, length, drop, is_some, cond, if◌then◌else◌, nat_lt}
use Rattle.std.specs.List.{list_any}
use Rattle.std.specs.Option.{option_or}
use Rattle.std.specs.Ordering.{eq_by_cmp}
use Rattle.std.specs.FinMap.{get, insert, entries}
use Rattle.paths.specs.Order.{path_cmp}
use Rattle.plain.specs.Limits.{most_components}
use Rattle.paths.specs.Name.{IsComponent}
use Rattle.plain.specs.declared.owner.Owner.{Owner}
use Rattle.trees.specs.declared.meta.Meta.{Meta}
use Rattle.trees.specs.declared.entry.Entry.{Entry}
use Rattle.trees.specs.declared.entry.Entry.TheVariants.{Directory, File}
use Rattle.trees.specs.declared.copy.CopyOptions.{CopyOptions}
use Rattle.trees.specs.declared.copy.Source.{Source}
use Rattle.trees.specs.declared.copy.Source.TheVariants.{Found, Data}
use Rattle.trees.specs.declared.copy.Change.{Change}
use Rattle.trees.specs.declared.copy.Change.TheVariants.{Place, Make}
use Rattle.trees.specs.declared.cause.Cause.{Cause}
use Rattle.trees.specs.declared.cause.Cause.TheVariants.{F1, F3, F5}
use Rattle.paths.specs.Fronts.{fronts}
use Rattle.trees.specs.TreeMap.{TreeMap, directory_meta, file_meta, is_directory}
use Rattle.trees.specs.Cause.{TreeOrCause, tree_or}
use Rattle.trees.specs.Put.{cause_at, with_missing}
use Rattle.trees.specs.Make.{make_cause}
use Rattle.trees.specs.Subtree.{map_below}

-- ---- owner and mode

-- the owner that `--chown` gives, else the entry's own
abbrev pub with_owner : Option Owner → Meta → Meta
with_owner None meta = meta
with_owner (Some owner) meta = record { mode = meta.mode; uid = owner.user; gid = owner.group }

-- the mode that `--chmod` gives, else the entry's own
abbrev pub with_mode : Option ℕ → Meta → Meta
with_mode None meta = meta
with_mode (Some mode) meta = record { mode = mode; uid = meta.uid; gid = meta.gid }

-- the meta of a missing parent that is made: 0755, and the owner that `--chown` gives, else 0:0; `--chmod` isn't put on it
abbrev pub parent_meta : CopyOptions → Meta
parent_meta options = with_owner options.owner directory_meta

-- the meta with which an entry is placed
abbrev pub placed_meta : CopyOptions → Meta → Meta
placed_meta options meta = with_mode options.mode (with_owner options.owner meta)

-- an entry as it is placed, a directory too
abbrev pub placed_entry : CopyOptions → Entry → Entry
placed_entry options (Directory meta) = Directory (placed_meta options meta)
placed_entry options (File meta content) = File (placed_meta options meta) content

-- ---- what COPY does: its changes, in order. into says whether files go into the destination

-- where a file of this name goes: into the destination, else it is placed at the destination itself
abbrev pub file_path : Bool → List (List ℕ) → List (List ℕ) → List (List ℕ)
file_path into dest name = if into then dest ++ name else dest

-- each of these entries is placed below the destination, at its path from the match
abbrev pub placements : CopyOptions → List (List ℕ) → List (List (List ℕ) × Entry) → List Change
placements options dest rows = map (λ row. Place (dest ++ row.0) (placed_entry options row.1)) rows

-- The changes of one match, by what stands there; rows are the entries at and below it by their paths from it, its own the first. Of
-- a directory the destination is made, and what is below the match is placed.
abbrev pub match_changes : CopyOptions → Bool → List (List ℕ) → List (List ℕ) → Option Entry → List (List (List ℕ) × Entry) → List Change
match_changes options into dest path None rows = []
match_changes options into dest path (Some (File meta content)) rows =
    Place (file_path into dest (drop (length path - 1) path)) (placed_entry options (File meta content)) ∷ []
match_changes options into dest path (Some (Directory meta)) rows = Make dest ∷ placements options dest (drop 1 rows)

-- the changes of the match at a path of the tree that is copied from
abbrev pub path_changes : CopyOptions → Bool → TreeMap → List (List ℕ) → List (List ℕ) → List Change
path_changes options into from dest path = match_changes options into dest path (get from path) (entries (map_below from path))

-- those of many matches, one after another
abbrev pub paths_changes : CopyOptions → Bool → TreeMap → List (List ℕ) → List (List (List ℕ)) → List Change
paths_changes options into from dest [] = []
paths_changes options into from dest (path ∷ paths) = path_changes options into from dest path ++ paths_changes options into from dest paths

-- those of a source: its matches in order, or a file of its own, 0644 and 0:0
abbrev pub source_changes : CopyOptions → Bool → TreeMap → List (List ℕ) → Source → List Change
source_changes options into from dest (Found paths) = paths_changes options into from dest paths
source_changes options into from dest (Data name content) =
    Place (file_path into dest (name ∷ [])) (placed_entry options (File file_meta content)) ∷ []

-- those of all sources, one after another
abbrev pub changes_of : CopyOptions → Bool → TreeMap → List (List ℕ) → List Source → List Change
changes_of options into from dest [] = []
changes_of options into from dest (source ∷ sources) = source_changes options into from dest source ++ changes_of options into from dest sources

-- ---- the tree after a list of changes, as a flat map

-- what a change places at q
abbrev pub placed_by : Change → List (List ℕ) → Option Entry
placed_by (Place path entry) q = cond (eq_by_cmp path_cmp q path) (Some entry) None
placed_by (Make path) q = None

-- the last entry that the changes place at q
abbrev pub last_placed : List Change → List (List ℕ) → Option Entry
last_placed [] q = None
last_placed (change ∷ changes) q = option_or (last_placed changes q) (placed_by change q)

-- the paths at which a change needs a directory, unless something stands there
abbrev pub directories_for : Change → List (List (List ℕ))
directories_for (Place path entry) = fronts path
directories_for (Make path) = fronts path ++ path ∷ []

-- those of all changes
abbrev pub directories_for_all : List Change → List (List (List ℕ))
directories_for_all [] = []
directories_for_all (change ∷ changes) = directories_for change ++ directories_for_all changes

-- whether one of the changes needs a directory at q
abbrev pub needs_directory : List Change → List (List ℕ) → Bool
needs_directory changes q = list_any (eq_by_cmp path_cmp q) (directories_for_all changes)

-- the map with each placed entry, one after another
abbrev pub with_placements : TreeMap → List Change → TreeMap
with_placements tree [] = tree
with_placements tree (Place path entry ∷ changes) = with_placements (insert tree path entry) changes
with_placements tree (Make path ∷ changes) = with_placements tree changes

-- The map of a list of changes over a tree: at a path stands the last entry placed there; else what the tree has; else a directory
-- of this meta where a change needs one.
abbrev pub changed_tree : Meta → TreeMap → List Change → TreeMap
changed_tree meta tree changes = with_placements (with_missing meta (directories_for_all changes) tree) changes

-- ---- why a COPY fails

-- whether an entry is a directory, if there is one
abbrev pub kind_of : Option Entry → Option Bool
kind_of None = None
kind_of (Some entry) = Some (is_directory (Some entry))

-- the kind of what the changes placed at q, if they placed anything there
abbrev pub kind_placed : List Change → List (List ℕ) → Option Bool
kind_placed changes q = kind_of (last_placed changes q)

-- an entry is placed where this COPY placed one before, and they aren't both directories
abbrev pub is_repeated : Option Bool → Entry → Bool
is_repeated None entry = false
is_repeated (Some was_directory) entry = not (was_directory && is_directory (Some entry))

-- Why a change fails, if it does: placed is the kind of what this COPY has placed at each path, at is what stands at each path. Making
-- the destination is no placement, so only a file in its way fails it.
abbrev pub change_cause : (List (List ℕ) → Option Bool) → (List (List ℕ) → Option Entry) → Change → Option Cause
change_cause placed at (Place path entry) =
    if nat_lt most_components (length path) then Some F5 else if is_repeated (placed path) entry then Some F3 else cause_at at path entry
change_cause placed at (Make path) = make_cause at path

-- the cause of the first change that fails, each in the map of the changes before it
abbrev pub first_cause : Meta → TreeMap → List Change → List Change → Option Cause
first_cause meta tree before [] = None
first_cause meta tree before (change ∷ changes) =
    option_or (change_cause (kind_placed before) (get (changed_tree meta tree before)) change) (first_cause meta tree (before ++ change ∷ []) changes)

-- ---- COPY

-- nothing stands at a path
abbrev pub is_absent : TreeMap → List (List ℕ) → Bool
is_absent tree path = not (is_some (get tree path))

-- a source isn't there: a pattern has no match, or nothing stands at a path that is said to be one (own)
abbrev pub is_missing : TreeMap → Source → Bool
is_missing from (Found paths) = length paths == 0 || list_any (is_absent from) paths
is_missing from (Data name content) = false

-- the tree after these changes, or the cause of the first that fails
abbrev pub tree_of_changes : Meta → TreeMap → List Change → TreeOrCause
tree_of_changes meta tree changes = tree_or (first_cause meta tree [] changes) (changed_tree meta tree changes)

-- whether files go into the destination: its text asks for it, or a directory stands there before
abbrev pub goes_into : TreeMap → List (List ℕ) → CopyOptions → Bool
goes_into tree dest options = options.into || is_directory (get tree dest)

-- The tree of a COPY of these sources, found in one tree, to a destination in another; or the cause why there is none. That a source
-- is missing is told before anything is placed.
abbrev pub copied : TreeMap → TreeMap → List Source → List (List ℕ) → CopyOptions → TreeOrCause
copied tree from sources dest options =
    if list_any (is_missing from) sources
    then Err F1
    else tree_of_changes (parent_meta options) tree (changes_of options (goes_into tree dest options) from dest sources)

-- ---- what the laws say more

-- the name of a source that is a file of its own is one component
abbrev pub HasName : Source → Type 0
HasName (Found paths) = Unit {0}
HasName (Data name content) = IsComponent name

-- a change places an entry at the path of another one, and they aren't both directories
abbrev pub is_repeated_by : List (List ℕ) → Entry → Change → Bool
is_repeated_by path entry (Place other before) = eq_by_cmp path_cmp path other && not (is_directory (Some before) && is_directory (Some entry))
is_repeated_by path entry (Make other) = false
