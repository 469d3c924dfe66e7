-- How a context's tree is made: first the rows that are wanted, from the last one on, and then the modes of the directories that others
-- lie under.
use Rattle.std.specs.Prelude.{◌≡◌, ◌≤◌, ℕ, Bool, true, List, [], Some, ◌⊎◌, slice_get, is_some, get_or}
use Rattle.std.specs.FinMap.{get}
use Rattle.paths.specs.Fronts.{is_front}
use Rattle.trees.specs.declared.entry.Entry.{Entry}
use Rattle.trees.specs.declared.entry.Entry.TheVariants.{Directory}
use Rattle.trees.specs.declared.meta.Meta.{Meta}
use Rattle.trees.specs.TreeMap.{TreeMap, directory_meta, is_directory}
use Rattle.trees.specs.Row.{Row}
use Rattle.trees.specs.Whole.{tree_of, ArePlaceable}
use Rattle.contexts.specs.Context.{owned, owned_meta}

-- a row is wanted: its flag says so, or it is the root
abbrev pub Wanted : List Bool → ℕ → Row → Type 0
Wanted flags n row = (row.0 ≡ []) ⊎ (get_or flags n true ≡ true)

-- a row from this position on
abbrev pub From : List Row → ℕ → ℕ → Row → Type 0
From rows k n row = (k ≤ n) × (slice_get rows n ≡ Some row)

-- where an entry of the tree comes from: a wanted row from this position on, or it is a directory on the way to one, or the root
abbrev pub ComesFrom : List Row → List Bool → ℕ → List (List ℕ) → Entry → Type 0
ComesFrom rows flags k path entry =
    ((n : ℕ) × ((row : Row) × (From rows k n row × (Wanted flags n row × ((row.0 ≡ path) × (entry ≡ owned row.1))))))
    ⊎ ((entry ≡ Directory directory_meta) × ((path ≡ []) ⊎ ((n : ℕ) × ((row : Row) × (From rows k n row × (Wanted flags n row × (is_front path row.0 ≡ true)))))))

-- the tree has the wanted rows from this position on
pub record IsPlaced (rows : List Row) (flags : List Bool) (k : ℕ) (tree : TreeMap) : Type 0 where
  pub rows_there : (n : ℕ) (row : Row) → From rows k n row → Wanted flags n row → get tree row.0 ≡ Some (owned row.1)
  pub ways_there : (n : ℕ) (row : Row) (front : List (List ℕ)) → From rows k n row → Wanted flags n row → is_front front row.0 ≡ true → is_some (get tree front) ≡ true
  pub root_there : is_some (get tree []) ≡ true
  pub comes_from : (path : List (List ℕ)) (entry : Entry) → get tree path ≡ Some entry → ComesFrom rows flags k path entry

-- rows of one tree, which has the wanted rows from this position on
pub record AreWanted (rows : List Row) (flags : List Bool) (k : ℕ) (wanted : List Row) : Type 0 where
  pub placeable : ArePlaceable wanted
  pub placed : IsPlaced rows flags k (tree_of wanted)

-- a list of directories has those of the rows from this position on that aren't wanted
pub record AreFolders (rows : List Row) (flags : List Bool) (k : ℕ) (folders : List (List (List ℕ) × Meta)) : Type 0 where
  pub once : (i j : ℕ) (folder other : List (List ℕ) × Meta) → slice_get folders i ≡ Some folder → slice_get folders j ≡ Some other → folder.0 ≡ other.0 → i ≡ j
  pub there : (n : ℕ) (row : Row) (meta : Meta) → From rows k n row → (Wanted flags n row → ⊥) → row.1 ≡ Directory meta → (i : ℕ) × (slice_get folders i ≡ Some (row.0, meta))
  pub of : (i : ℕ) (folder : List (List ℕ) × Meta) → slice_get folders i ≡ Some folder
      → (n : ℕ) × ((row : Row) × (From rows k n row × ((Wanted flags n row → ⊥) × ((row.0 ≡ folder.0) × (row.1 ≡ Directory folder.1)))))

-- the directories from this position on have their modes, where they stand; the rest is as in the tree before
pub record HasModes (folders : List (List (List ℕ) × Meta)) (k : ℕ) (before tree : TreeMap) : Type 0 where
  pub set : (i : ℕ) (folder : List (List ℕ) × Meta) → k ≤ i → slice_get folders i ≡ Some folder → is_some (get before folder.0) ≡ true → get tree folder.0 ≡ Some (Directory (owned_meta folder.1))
  pub rest : (path : List (List ℕ)) → ((i : ℕ) (folder : List (List ℕ) × Meta) → k ≤ i → slice_get folders i ≡ Some folder → folder.0 ≡ path → ⊥) → get tree path ≡ get before path
  pub same : (path : List (List ℕ)) → is_some (get tree path) ≡ is_some (get before path)
  pub kinds : (path : List (List ℕ)) → is_directory (get tree path) ≡ is_directory (get before path)

-- no two of the directories have one path, and where one stands in the tree, a directory stands
pub record AreApart (folders : List (List (List ℕ) × Meta)) (before : TreeMap) : Type 0 where
  pub once : (i j : ℕ) (folder other : List (List ℕ) × Meta) → slice_get folders i ≡ Some folder → slice_get folders j ≡ Some other → folder.0 ≡ other.0 → i ≡ j
  pub kinds : (i : ℕ) (folder : List (List ℕ) × Meta) → slice_get folders i ≡ Some folder → is_some (get before folder.0) ≡ true → is_directory (get before folder.0) ≡ true
