-- How what a tree lacks is found: name by name down to the first that isn't there.
use Rattle.std.specs.Prelude.{◌≡◌, ◌↔◌, ◌+◌, ◌<◌, ◌≤◌, ℕ, true, false, List, is_some, length, take}
use Rattle.std.specs.List.Sorted.{IsStrictlySortedBy}
use Rattle.std.specs.FinMap.{get}
use Rattle.paths.specs.Order.{path_cmp}
use Rattle.trees.specs.TreeMap.{TreeMap}
use Rattle.contexts.specs.Left.{IsGap, has_path, is_over}

-- the first `depth` names lead to something in a tree, each on the way too, and the next one, if there is one, to nothing
pub record Stand (tree : TreeMap) (names : List (List ℕ)) (depth : ℕ) : Type 0 where
  pub most : depth ≤ length names
  pub there : (n : ℕ) → n ≤ depth → is_some (get tree (take n names)) ≡ true
  pub next : depth < length names → is_some (get tree (take (depth + 1) names)) ≡ false

-- the same as what a tree lacks, of keys in their order
pub record AreGaps (tree : TreeMap) (listed keys : List (List (List ℕ))) : Type 0 where
  pub ordered : IsStrictlySortedBy path_cmp keys
  pub each : (path : List (List ℕ)) → (has_path keys path ≡ true) ↔ (IsGap tree path × (is_over listed path ≡ true))
