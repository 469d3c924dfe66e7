use Rattle.std.specs.Vec.Iter.{into_iter_items}
use Rattle.trees.specs.PrivateNode.{map_of}
use Rattle.trees.specs.PrivateCopy.{kind_in}
use Rattle.trees.proofs.PlacingSteps.{HasMade}
use Rattle.trees.proofs.apply.apply_all.Given as goal

-- the changes before were made, and none of them failed
abbrev pub invariant-loop-change : goal.invariant-loop-change
invariant-loop-change l = HasMade l.parent l.fn.changes.items (kind_in l.fn.placed.entries) (map_of l.fn.root) (into_iter_items l.change-iterator) (kind_in l.placed.entries) (map_of l.root)
