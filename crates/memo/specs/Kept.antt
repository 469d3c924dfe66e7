-- The trees that a generation of a memo keeps, by their numbers (own).
use Rattle.std.specs.Prelude.{◌<◌, ℕ, List, length, map, slice_index_or}
use Rattle.std.specs.List.{All}
use Rattle.trees.specs.TreeMap.{TreeMap, empty_tree}
use Rattle.memo.specs.Memo.{GenerationValue}

-- it keeps a tree of this number
abbrev pub Keeps : GenerationValue → ℕ → Type 0
Keeps generation number = number < length generation.trees

-- it keeps trees of all these numbers
abbrev pub KeepsAll : GenerationValue → List ℕ → Type 0
KeepsAll generation numbers = All (Keeps generation) numbers

-- the tree of a number
abbrev pub kept_tree : GenerationValue → ℕ → TreeMap
kept_tree generation number = slice_index_or generation.trees number empty_tree

-- the trees of some numbers
abbrev pub kept_trees : GenerationValue → List ℕ → List TreeMap
kept_trees generation numbers = map (kept_tree generation) numbers
