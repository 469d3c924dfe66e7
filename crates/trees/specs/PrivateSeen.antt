-- A node as it is seen from where it hangs: with the modes and owners that COPYs put on it and on all below it (own).
use Rattle.std.specs.Prelude.{ℕ, List, map}
use Rattle.std.specs.FinMap.{empty, entries}
use Rattle.trees.specs.declared.copy.CopyOptions.{CopyOptions}
use Rattle.trees.specs.declared.entry.Entry.{Entry}
use Rattle.trees.specs.TreeMap.{TreeMap}
use Rattle.trees.specs.Over.{insert_all}
use Rattle.trees.specs.Copy.{placed_entry}
use Rattle.trees.specs.PrivateNode.{NodeValue}

-- entries as they are placed, at the same paths
abbrev pub placed_rows : CopyOptions → List (List (List ℕ) × Entry) → List (List (List ℕ) × Entry)
placed_rows options rows = map (λ row. (row.0, placed_entry options row.1)) rows

-- the map whose entries are as those of another one are placed
abbrev pub placed_map : CopyOptions → TreeMap → TreeMap
placed_map options tree = insert_all (placed_rows options (entries tree)) empty

-- a node, each entry of which, its own and all below it, is as it is placed
abbrev pub seen : CopyOptions → NodeValue → NodeValue
seen options node = record { top = placed_entry options node.top; below = placed_map options node.below; height = node.height }

-- children, each of them seen so
abbrev pub seen_kids : CopyOptions → List (List ℕ × NodeValue) → List (List ℕ × NodeValue)
seen_kids options kids = map (λ kid. (kid.0, seen options kid.1)) kids

-- the children of each part, seen so
abbrev pub seen_parts : CopyOptions → List (List (List ℕ × NodeValue)) → List (List (List ℕ × NodeValue))
seen_parts options parts = map (seen_kids options) parts
