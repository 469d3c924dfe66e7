-- What of a folder goes into its bundle, and which rows of a context may be left out of a bundle (own).
use Rattle.std.specs.Prelude.{◌≡◌, ◌⊎◌, ◌||◌, ◌&&◌, ◌++◌, ℕ, Bool, true, false, not, List, [], ◌∷◌, Option, Some, None, Ok, bytes_eq, codes}
use Rattle.std.specs.FinMap.{get}
use Rattle.paths.specs.Fronts.{is_front}
use Rattle.trees.specs.declared.entry.Entry.{Entry}
use Rattle.trees.specs.declared.entry.Entry.TheVariants.{Directory, File}
use Rattle.trees.specs.declared.meta.Meta.{Meta}
use Rattle.trees.specs.Row.{Row, Has}
use Rattle.trees.specs.TreeMap.{TreeMap, directory_meta, file_meta}
use Rattle.ignorefile.specs.declared.line.Line.{Line}
use Rattle.ignorefile.specs.File.{ignore_of}
use Rattle.ignorefile.specs.Kept.{Kept}
use Rattle.contexts.specs.Context.{Stays}
use Rattle.packing.specs.Packed.{Asked}

-- the path of a folder, or of what lies in it
abbrev pub Place : Type 0
Place = List (List ℕ)

-- how a folder is read: the lines by which it is left out what they leave out, whether its file `Dockerfile` is the bundle's, whether files have no
-- bytes, and whether what is neither a file nor a folder is passed over
pub record Keeping : Type 0 where
  pub lines : List Line
  pub dockerfile : Bool
  pub names : Bool
  pub pass : Bool

-- the same, by what is asked
abbrev pub keeping_of : Asked → List Line → Keeping
keeping_of asked lines = record { lines = lines; dockerfile = not asked.has_file; names = asked.names; pass = asked.pass }

-- the path of a folder's ignore file
abbrev pub ignore_path : Place
ignore_path = codes ".dockerignore" ∷ []

-- a path is that of the ignore file, or of the folder's Dockerfile where that is the bundle's
abbrev pub is_own : Bool → Place → Bool
is_own dockerfile [] = false
is_own dockerfile (name ∷ []) = bytes_eq name (codes ".dockerignore") || (dockerfile && bytes_eq name (codes "Dockerfile"))
is_own dockerfile (name ∷ next ∷ names) = false

-- what has this path is packed: it is one of these two, or the lines keep it
abbrev pub IsPacked : Keeping → Place → Type 0
IsPacked keeping path = (is_own keeping.dockerfile path ≡ true) ⊎ Kept keeping.lines path

-- a file of this path is packed with its bytes: each is, or of names alone these two
abbrev pub has_bytes : Keeping → Place → Bool
has_bytes keeping path = not keeping.names || is_own keeping.dockerfile path

-- neither what has this path is packed, nor is anything below it kept
pub record LeavesWhole (keeping : Keeping) (path : Place) : Type 0 where
  pub own : is_own keeping.dockerfile path ≡ false
  pub below : (rest : Place) → Kept keeping.lines (path ++ rest) → ⊥

-- what a name of a folder is
pub data Kind : Type 0 where
  FileKind : Kind
  FolderKind : Kind
  OtherKind : Kind

-- a name that was looked at, and what it is
pub record Seen : Type 0 where
  pub path : Place
  pub kind : Kind

-- a list has this element
abbrev pub IsAmong : {A : Type 0} → A → List A → Type 0
IsAmong one [] = ⊥
IsAmong one (first ∷ more) = (one ≡ first) ⊎ IsAmong one more

-- a path leads to another one: it is the same, or that lies below it
abbrev pub LeadsTo : Place → Place → Type 0
LeadsTo path other = (other ≡ path) ⊎ (is_front path other ≡ true)

-- A path may be in a bundle: it is the root, the ignore file or the bundle's Dockerfile, or it leads to a name that was looked at and that the lines
-- keep.
abbrev pub MayStand : Keeping → List Seen → Place → Type 0
MayStand keeping seen path =
    (path ≡ []) ⊎ ((is_own keeping.dockerfile path ≡ true) ⊎ ((one : Seen) × (IsAmong one seen × (Kept keeping.lines one.path × LeadsTo path one.path))))

-- what a name is stands there, if it may stand in a bundle; and if it may not, it is passed over
abbrev pub Stands : Keeping → Kind → Option Entry → Type 0
Stands keeping FileKind found = (content : List ℕ) × (found ≡ Some (File file_meta content))
Stands keeping FolderKind found = found ≡ Some (Directory directory_meta)
Stands keeping OtherKind found = keeping.pass ≡ true

-- What stands in a folder's tree, by the names of the machine's folder that a walk was given: nothing but what is kept and what leads to it; all that
-- is kept; and, of names alone, no bytes but those of the ignore file and of the bundle's Dockerfile. At and below the names that were looked at no
-- further nothing is kept.
pub record Gathers (keeping : Keeping) (tree : TreeMap) : Type 0 where
  pub seen : List Seen
  pub left : List Place
  pub only : (path : Place) (entry : Entry) → get tree path ≡ Some entry → MayStand keeping seen path
  pub all : (one : Seen) → IsAmong one seen → IsPacked keeping one.path → Stands keeping one.kind (get tree one.path)
  pub bare : (path : Place) (meta : Meta) (content : List ℕ) → get tree path ≡ Some (File meta content) → has_bytes keeping path ≡ false → content ≡ []
  pub whole : (path : Place) → IsAmong path left → LeavesWhole keeping path

-- the lines by which a folder is left out what they leave out: those of the ignore file, if one is applied
abbrev pub AreApplied : Bool → Option (List ℕ) → List Line → Type 0
AreApplied false ignore lines = lines ≡ []
AreApplied true None lines = lines ≡ []
AreApplied true (Some bytes) lines = ignore_of bytes ≡ Ok lines

-- the ignore file that was found stands in the context
abbrev pub HasIgnore : Option (List ℕ) → TreeMap → Type 0
HasIgnore None tree = Unit {0}
HasIgnore (Some bytes) tree = get tree ignore_path ≡ Some (File file_meta bytes)

-- Some rows suffice by the lines of an ignore file: they are some of the rows, and among them are each that stays and each on the way to one that
-- stays.
pub record Suffices (lines : List Line) (rows some : List Row) : Type 0 where
  pub of : (row : Row) → Has some row → Has rows row
  pub stays : (row : Row) → Has rows row → Stays lines row → Has some row
  pub ways : (row other : Row) → Has rows row → Has rows other → Stays lines other → is_front row.0 other.0 ≡ true → Has some row
