-- How many bytes the files of trees have (own).
use Rattle.std.specs.Prelude.{◌+◌, ◌-◌, ◌^◌, ℕ, List, [], ◌∷◌, length, min}
use Rattle.std.specs.FinMap.{entries}
use Rattle.trees.specs.TreeMap.{TreeMap}
use Rattle.trees.specs.declared.entry.Entry.{Entry}
use Rattle.trees.specs.declared.entry.Entry.TheVariants.{Directory, File}

-- the bytes of an entry of a tree; a directory has none
abbrev pub entry_bytes : Entry → ℕ
entry_bytes (Directory meta) = 0
entry_bytes (File meta content) = length content

-- those of rows of paths and entries
abbrev pub rows_bytes : List (List (List ℕ) × Entry) → ℕ
rows_bytes [] = 0
rows_bytes (row ∷ rows) = entry_bytes row.1 + rows_bytes rows

-- those of all files of a tree
abbrev pub tree_bytes : TreeMap → ℕ
tree_bytes tree = rows_bytes (entries tree)

-- those of all files of each of some trees
abbrev pub trees_bytes : List TreeMap → ℕ
trees_bytes [] = 0
trees_bytes (tree ∷ trees) = tree_bytes tree + trees_bytes trees

-- a count in a machine number: the largest one if it is more
abbrev pub capped : ℕ → ℕ
capped count = min count (2 ^ 64 - 1)
