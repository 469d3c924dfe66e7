-- By what the functions inside this crate that carry out a COPY are stated: one change after another.
use Rattle.std.specs.Prelude.{◌≡◌, ℕ, Bool, true, false, ◌||◌, ◌⊎◌, ◌∷◌, ◌++◌, is_some, Option, Some, None, Result, Ok, Err, List, []}
use Rattle.std.specs.List.{AllByRecursion}
use Rattle.std.specs.Option.{option_or}
use Rattle.std.specs.declared.cmp.Reverse.{Reverse}
use Rattle.std.specs.Ordering.{eq_by_cmp}
use Rattle.std.specs.Map.{lookup}
use Rattle.std.specs.BTreeMap.{is_at}
use Rattle.std.specs.FinMap.{get, entries}
use Rattle.paths.specs.Path.{IsClean}
use Rattle.paths.specs.Long.{AreNames}
use Rattle.paths.specs.Order.{path_cmp}
use Rattle.paths.specs.Fronts.{is_front}
use Rattle.plain.specs.declared.fault.Fault.{Fault}
use Rattle.plain.specs.declared.fault.Fault.TheVariants.{Because, Memory}
use Rattle.trees.specs.declared.meta.Meta.{Meta}
use Rattle.trees.specs.declared.copy.Change.{Change}
use Rattle.trees.specs.declared.copy.Change.TheVariants.{Place, Make}
use Rattle.trees.specs.declared.cause.Cause.{Cause}
use Rattle.trees.specs.declared.cause.Cause.TheVariants.{F5}
use Rattle.trees.specs.declared.folder.Joined.{Joined}
use Rattle.trees.specs.declared.folder.Joined.TheVariants.{All, TooDeep, Other}
use Rattle.trees.specs.declared.folder.Whole.{Whole}
use Rattle.trees.specs.declared.folder.Whole.TheVariants.{Folder, Deep, Neither}
use Rattle.trees.specs.declared.entry.Entry.{Entry}
use Rattle.trees.specs.declared.copy.CopyOptions.{CopyOptions}
use Rattle.trees.specs.PrivateNode.{NodeValue, map_of}
use Rattle.trees.specs.PrivateSeen.{placed_rows}
use Rattle.trees.specs.TreeMap.{TreeMap, IsTree, is_directory}
use Rattle.trees.specs.Put.{placed}
use Rattle.trees.specs.Make.{make_cause, with_directory}
use Rattle.trees.specs.Over.{over}
use Rattle.trees.specs.Copy.{placed_by, last_placed, needs_directory, kind_of, kind_placed, change_cause, first_cause, changed_tree}

-- the tree after one change more
abbrev pub with_change : Meta → TreeMap → Change → TreeMap
with_change meta tree (Place path entry) = placed meta tree path entry
with_change meta tree (Make path) = with_directory meta tree path

-- the kind of what a change places at q, if it places anything there
abbrev pub kind_by : Change → List (List ℕ) → Option Bool
kind_by change q = kind_of (placed_by change q)

-- the kind of what was placed at q so far; the rows are in falling order of their paths
abbrev pub kind_in : List (Reverse (List (List ℕ)) × Bool) → List (List ℕ) → Option Bool
kind_in rows q = lookup (is_at (λ key. path_cmp key.0 q)) rows

-- a change was made: it has no cause to fail; before and after are the kinds of what is placed so far
pub record IsChanged (meta : Meta) (change : Change) (before : List (List ℕ) → Option Bool) (old : TreeMap) (after : List (List ℕ) → Option Bool) (new : TreeMap) : Type 0 where
  pub fine : change_cause before (get old) change ≡ None
  pub map : new ≡ with_change meta old change
  pub kinds : (q : List (List ℕ)) → after q ≡ option_or (kind_by change q) (before q)
  pub tree : IsTree new

-- a call makes a change or tells its cause; after a fault nothing is said of the tree
abbrev pub AppliesChange : Meta → Change → (List (List ℕ) → Option Bool) → TreeMap → (List (List ℕ) → Option Bool) → TreeMap → Result (Unit {0}) (Fault Cause) → Type 0
AppliesChange meta change before old after new (Ok done) = IsChanged meta change before old after new
AppliesChange meta change before old after new (Err (Because cause)) = change_cause before (get old) change ≡ Some cause
AppliesChange meta change before old after new (Err Memory) = Unit {0}

-- a fault tells this cause
abbrev pub TellsCause : Fault Cause → Option Cause → Type 0
TellsCause (Because cause) found = found ≡ Some cause
TellsCause Memory found = Unit {0}

-- These changes of a COPY were made over a first tree, and none of them failed; kind is that of what they placed at each path.
pub record AreMade (meta : Meta) (first : TreeMap) (changes : List Change) (kind : List (List ℕ) → Option Bool) (now : TreeMap) : Type 0 where
  pub fine : first_cause meta first [] changes ≡ None
  pub map : now ≡ changed_tree meta first changes
  pub kinds : (q : List (List ℕ)) → kind_placed changes q ≡ kind q
  pub tree : IsTree now

-- A call makes these changes after all that were made before, or tells the cause of the first that fails. After a fault nothing is said of the
-- tree.
abbrev pub AppliesMore : Meta → List Change → (List (List ℕ) → Option Bool) → TreeMap → (List (List ℕ) → Option Bool) → TreeMap → Result (Unit {0}) (Fault Cause) → Type 0
AppliesMore meta changes before old after new (Ok done) = IsTree new × ((first : TreeMap) (made : List Change) → AreMade meta first made before old → AreMade meta first (made ++ changes) after new)
AppliesMore meta changes before old after new (Err fault) = (first : TreeMap) (made : List Change) → AreMade meta first made before old → TellsCause fault (first_cause meta first [] (made ++ changes))

-- a call makes all changes, or tells the cause of the first that fails
abbrev pub AppliesChanges : Meta → List Change → TreeMap → TreeMap → Result (Unit {0}) (Fault Cause) → Type 0
AppliesChanges meta changes old new (Ok done) = (first_cause meta old [] changes ≡ None) × ((new ≡ changed_tree meta old changes) × IsTree new)
AppliesChanges meta changes old new (Err fault) = TellsCause fault (first_cause meta old [] changes)

-- a node whose entries are as those of another one are placed
pub record IsPlacedNode (options : CopyOptions) (old new : NodeValue) : Type 0 where
  pub rows : entries (map_of new) ≡ placed_rows options (entries (map_of old))

-- what a COPY asks that puts on no other owner and mode
abbrev pub keeping : CopyOptions
keeping = record { into = false; owner = None; mode = None }

-- ---- folders that a COPY hangs in as one

-- a path is below another one: it goes on from there by these names
abbrev pub IsUnder : List (List ℕ) → List (List ℕ) → Type 0
IsUnder top path = (name : List ℕ) × ((rest : List (List ℕ)) × (path ≡ top ++ name ∷ rest))

-- a path on the way to the destination, or the destination itself
abbrev pub is_way : List (List ℕ) → List (List ℕ) → Bool
is_way dest path = is_front path dest || eq_by_cmp path_cmp path dest

-- nothing lies below a path
abbrev pub IsFreeBelow : TreeMap → List (List ℕ) → Type 0
IsFreeBelow tree top = (name : List ℕ) (rest : List (List ℕ)) → get tree (top ++ name ∷ rest) ≡ None

-- where something stands below both, it is a directory in both
pub record MeetInDirectories (one other : TreeMap) : Type 0 where
  pub at : (name : List ℕ) (rest : List (List ℕ)) → is_some (get one (name ∷ rest)) ≡ true → is_some (get other (name ∷ rest)) ≡ true → (is_directory (get one (name ∷ rest)) ≡ true) × (is_directory (get other (name ∷ rest)) ≡ true)

-- a folder, with the owners and modes that a COPY puts on it, was laid over a tree
pub record IsLaidPlaced (options : CopyOptions) (old : TreeMap) (folder : NodeValue) (new : TreeMap) : Type 0 where
  pub upper : NodeValue
  pub placed : IsPlacedNode options folder upper
  pub laid : new ≡ over old (map_of upper)

-- a change's path has names only
abbrev pub IsNamed : Change → Type 0
IsNamed (Place path entry) = AreNames path
IsNamed (Make path) = IsClean path

-- the first of these changes makes the destination
abbrev pub Begins : List (List ℕ) → List Change → Type 0
Begins dest changes = (rest : List Change) × (changes ≡ Make dest ∷ rest)

-- Changes of a COPY of folders: where nothing lies below the destination none of them fails, and below it they leave what is joined.
pub record IsJoined (dest : List (List ℕ)) (changes : List Change) (joined : TreeMap) : Type 0 where
  pub tree : IsTree joined
  pub named : AllByRecursion IsNamed changes
  pub last : (name : List ℕ) (rest : List (List ℕ)) → last_placed changes (dest ++ name ∷ rest) ≡ get joined (name ∷ rest)
  pub under : (path : List (List ℕ)) (entry : Entry) → last_placed changes path ≡ Some entry → IsUnder dest path
  pub needs : (path : List (List ℕ)) → needs_directory changes path ≡ true → (is_way dest path ≡ true) ⊎ ((u : IsUnder dest path) × (is_directory (get joined (u.0 ∷ u.1.0)) ≡ true))
  pub fine : (meta : Meta) (tree : TreeMap) → make_cause (get tree) dest ≡ None → IsFreeBelow tree dest → first_cause meta tree [] changes ≡ None
  pub begins : (changes ≡ []) ⊎ Begins dest changes

-- what joined the changes before joins these too
abbrev pub Joins : List (List ℕ) → List Change → TreeMap → TreeMap → Type 0
Joins dest changes old new = (before : List Change) → IsJoined dest before old → IsJoined dest (before ++ changes) new

-- Changes of a COPY that begin by making the destination, of which one goes too deep: where the destination can be made and nothing lies
-- below it, that is why they fail.
pub record IsSunk (dest : List (List ℕ)) (changes : List Change) : Type 0 where
  pub begins : Begins dest changes
  pub deep : (meta : Meta) (tree : TreeMap) → make_cause (get tree) dest ≡ None → IsFreeBelow tree dest → first_cause meta tree [] changes ≡ Some F5

-- after those that were joined before, these go too deep
abbrev pub Sinks : List (List ℕ) → List Change → TreeMap → Type 0
Sinks dest changes old = (before : List Change) → IsJoined dest before old → IsSunk dest (before ++ changes)

-- what becomes of changes: they are joined, or go too deep; else nothing is said
abbrev pub Comes : List (List ℕ) → List Change → TreeMap → TreeMap → Joined → Type 0
Comes dest changes old new All = Joins dest changes old new
Comes dest changes old new TooDeep = Sinks dest changes old
Comes dest changes old new Other = Unit {0}

-- the folder that a COPY's changes come to, where nothing lies below the destination
pub record IsWhole (tree : TreeMap) (dest : List (List ℕ)) (changes : List Change) (folder : TreeMap) : Type 0 where
  pub joined : IsJoined dest changes folder
  pub begins : Begins dest changes
  pub free : IsFreeBelow tree dest

-- what is found of a COPY as a whole: its folder, or that it goes too deep; else nothing is said
abbrev pub IsFoundOf : TreeMap → List (List ℕ) → List Change → Whole → Type 0
IsFoundOf tree dest changes (Folder folder) = IsWhole tree dest changes (map_of folder)
IsFoundOf tree dest changes Deep = IsSunk dest changes × IsFreeBelow tree dest
IsFoundOf tree dest changes Neither = Unit {0}

-- a map with a folder below the destination, and elsewhere what stands once the destination is made
pub record IsHung (meta : Meta) (tree : TreeMap) (dest : List (List ℕ)) (folder : TreeMap) (new : TreeMap) : Type 0 where
  pub under : (name : List ℕ) (rest : List (List ℕ)) → get new (dest ++ name ∷ rest) ≡ get folder (name ∷ rest)
  pub apart : (path : List (List ℕ)) → is_front dest path ≡ false → get new path ≡ get (with_directory meta tree dest) path

-- a call makes the destination and hangs a folder in below it, or tells why it can't be made; after a fault nothing is said of the tree
abbrev pub HangsIn : Meta → List (List ℕ) → TreeMap → TreeMap → TreeMap → Result (Unit {0}) (Fault Cause) → Type 0
HangsIn meta dest folder old new (Ok done) = (make_cause (get old) dest ≡ None) × IsHung meta old dest folder new
HangsIn meta dest folder old new (Err fault) = TellsCause fault (make_cause (get old) dest)
