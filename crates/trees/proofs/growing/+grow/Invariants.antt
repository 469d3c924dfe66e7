use Rattle.std.proofs.Common.{◌-◌, length, take, drop}
use Rattle.plain.specs.Limits.{most_components}
use Rattle.trees.specs.PrivateGrowing.{AreGrown}
use Rattle.trees.proofs.growing.+grow.Given as goal

abbrev pub decreases-grow : goal.decreases-grow
decreases-grow l = most_components - l.depth

-- the children are those of the rows that were taken
abbrev pub invariant-loop-next : goal.invariant-loop-next
invariant-loop-next l = AreGrown l.fn.left.items l.left.items (take l.depth l.path) (drop l.depth l.path) l.fn.entry l.kids

abbrev pub decreases-loop-next : goal.decreases-loop-next
decreases-loop-next l = length l.left.items
