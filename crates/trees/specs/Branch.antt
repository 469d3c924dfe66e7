-- What stands at a path of a tree and below it is a map of the paths from there; here, what its children are.
use Rattle.std.specs.Prelude.{◌≡◌, ℕ, true, List, [], ◌∷◌, ◌++◌, map, not, is_some}
use Rattle.std.specs.List.{AllByRecursion, filter}
use Rattle.std.specs.Ordering.{is_lt}
use Rattle.std.specs.FinMap.{get, entries}
use Rattle.std.specs.FinMap.Entries.{is_sorted}
use Rattle.paths.specs.Order.{name_cmp}
use Rattle.trees.specs.declared.entry.Entry.{Entry}
use Rattle.trees.specs.TreeMap.{TreeMap}

-- the entries of children with their paths from the folder, one child after another
abbrev pub rows_of_children : List (List ℕ × TreeMap) → List (List (List ℕ) × Entry)
rows_of_children [] = []
rows_of_children (child ∷ more) = map (λ row. (child.0 ∷ row.0, row.1)) (entries child.1) ++ rows_of_children more

-- These are the children, in the order of their names: each has an entry, and in path order the entries are first the branch's own
-- and then those of one child after another.
pub record AreChildren (branch : TreeMap) (children : List (List ℕ × TreeMap)) : Type 0 where
  pub own : Entry
  pub rows : entries branch ≡ ([], own) ∷ rows_of_children children
  pub each : AllByRecursion (λ child. is_some (get child.1 []) ≡ true) children

-- of what stands under names, all whose name doesn't come before a text
abbrev pub from_name : {V : Type 0} → List ℕ → List (List ℕ × V) → List (List ℕ × V)
from_name front rows = filter (λ row. not (is_lt (name_cmp row.0 front))) rows

-- these are the children of a branch without those whose names come before a text, and their names rise
pub record AreChildrenFrom (branch : TreeMap) (front : List ℕ) (children : List (List ℕ × TreeMap)) : Type 0 where
  pub all : List (List ℕ × TreeMap)
  pub whole : AreChildren branch all
  pub left : children ≡ from_name front all
  pub rise : is_sorted name_cmp children ≡ true
