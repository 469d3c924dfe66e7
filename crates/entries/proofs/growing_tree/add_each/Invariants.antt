use Rattle.std.proofs.Common.{◌≡◌, ◌++◌, List}
use Rattle.std.specs.Vec.Iter.{into_iter_items}
use Rattle.trees.specs.Row.{Row}
use Rattle.trees.specs.Builder.{IsBuiltOf}
use Rattle.entries.proofs.growing_tree.add_each.Given as goal

-- the rows so far are built
abbrev pub invariant-adding : goal.invariant-adding
invariant-adding l = (seen : List Row) × (l.fn.run.items ≡ seen ++ into_iter_items l.path-iterator) × ((rows : List Row) → IsBuiltOf rows l.initial.builder → IsBuiltOf (rows ++ seen) l.builder)
