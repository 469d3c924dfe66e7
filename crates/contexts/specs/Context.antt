-- What a context is once its ignore file has filtered it (Dockerfile reference, .dockerignore; own where owners are told: each entry is
-- owned by 0:0).
use Rattle.std.specs.Prelude.{◌≡◌, ℕ, true, List, [], Some, ◌⊎◌, slice_get, is_some}
use Rattle.std.specs.FinMap.{get}
use Rattle.paths.specs.Fronts.{is_front}
use Rattle.trees.specs.declared.entry.Entry.{Entry}
use Rattle.trees.specs.declared.entry.Entry.TheVariants.{Directory, File}
use Rattle.trees.specs.declared.meta.Meta.{Meta}
use Rattle.trees.specs.Row.{Row, Has}
use Rattle.trees.specs.TreeMap.{TreeMap, directory_meta, is_directory}
use Rattle.ignorefile.specs.declared.line.Line.{Line}
use Rattle.ignorefile.specs.Kept.{Kept}

-- What a context's list is: no path stands in it twice, what stands on the way to another path is a directory, and so is the root.
pub record IsListing (rows : List Row) : Type 0 where
  pub once : (m n : ℕ) (row other : Row) → slice_get rows m ≡ Some row → slice_get rows n ≡ Some other → row.0 ≡ other.0 → m ≡ n
  pub folders : (row other : Row) → Has rows row → Has rows other → is_front row.0 other.0 ≡ true → is_directory (Some row.1) ≡ true
  pub root : (row : Row) → Has rows row → row.0 ≡ [] → is_directory (Some row.1) ≡ true

-- the same mode, owned by 0:0
abbrev pub owned_meta : Meta → Meta
owned_meta meta = record { mode = meta.mode; uid = 0; gid = 0 }

-- an entry as a context has it
abbrev pub owned : Entry → Entry
owned (Directory meta) = Directory (owned_meta meta)
owned (File meta content) = File (owned_meta meta) content

-- a row stays: its path is the root, or the ignore file keeps it
abbrev pub Stays : List Line → Row → Type 0
Stays lines row = (row.0 ≡ []) ⊎ Kept lines row.0

-- the directory at a path that others lie under: as it is listed, else with 0755
abbrev pub IsFolder : List Row → List (List ℕ) → Entry → Type 0
IsFolder rows path entry =
    ((row : Row) × (Has rows row × ((row.0 ≡ path) × (entry ≡ owned row.1))))
    ⊎ (((row : Row) → Has rows row → row.0 ≡ path → ⊥) × (entry ≡ Directory directory_meta))

-- The tree of a context: the rows that stay, the root and the directories on the way to a row that stays, and nothing else.
pub record IsContext (rows : List Row) (lines : List Line) (tree : TreeMap) : Type 0 where
  pub stays : (row : Row) → Has rows row → Stays lines row → get tree row.0 ≡ Some (owned row.1)
  pub ways : (row : Row) (front : List (List ℕ)) → Has rows row → Stays lines row → is_front front row.0 ≡ true → (entry : Entry) × ((get tree front ≡ Some entry) × IsFolder rows front entry)
  pub root : (entry : Entry) × ((get tree [] ≡ Some entry) × IsFolder rows [] entry)
  pub only : (path : List (List ℕ)) → is_some (get tree path) ≡ true
      → (path ≡ []) ⊎ ((row : Row) × (Has rows row × (Stays lines row × ((row.0 ≡ path) ⊎ (is_front path row.0 ≡ true)))))
