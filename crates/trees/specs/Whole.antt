-- The tree of a list of entries (own): each entry stands at its path, and what a list lacks on the way to them is made.
use Rattle.std.specs.Prelude.{◌≡◌, ℕ, true, None, List, [], ◌∷◌, ◌⊎◌}
use Rattle.std.specs.FinMap.{get}
use Rattle.paths.specs.Fronts.{is_front}
use Rattle.paths.specs.Path.{IsClean}
use Rattle.trees.specs.declared.entry.Entry.{Entry}
use Rattle.trees.specs.declared.entry.Entry.TheVariants.{Directory}
use Rattle.trees.specs.TreeMap.{TreeMap, directory_meta, empty_tree}
use Rattle.trees.specs.Put.{placed, cause_at}
use Rattle.trees.specs.Row.{Row, Has}

-- the tree of a list: each entry is placed, with missing directories, 0755 and 0:0
abbrev pub tree_of : List Row → TreeMap
tree_of [] = empty_tree
tree_of (row ∷ rows) = placed directory_meta (tree_of rows) row.0 row.1

-- each row's entry can be placed on the tree of the rows behind it, its path being clean
abbrev pub ArePlaceable : List Row → Type 0
ArePlaceable [] = Unit {0}
ArePlaceable (row ∷ rows) = (IsClean row.0 → cause_at (get (tree_of rows)) row.0 row.1 ≡ None) × ArePlaceable rows

-- an entry stands for a path in a list: it is the list's own, or, where the path is the root or on the way to a row, a directory of 0755 and
-- 0:0
abbrev pub StandsAt : List Row → List (List ℕ) → Entry → Type 0
StandsAt rows path entry =
    ((row : Row) × (Has rows row × ((row.0 ≡ path) × (row.1 ≡ entry))))
    ⊎ ((entry ≡ Directory directory_meta) × ((path ≡ []) ⊎ ((row : Row) × (Has rows row × (is_front path row.0 ≡ true)))))
