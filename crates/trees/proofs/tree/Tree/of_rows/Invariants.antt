use Rattle.std.proofs.Common.{length}
use Rattle.trees.proofs.GrowingSteps.{IsRest}
use Rattle.trees.proofs.tree.Tree.of_rows.Given as goal

abbrev pub decreases-loop-path : goal.decreases-loop-path
decreases-loop-path l = length l.left.items

-- the rows behind those that are left are placed
abbrev pub invariant-loop-path : goal.invariant-loop-path
invariant-loop-path l = IsRest l.fn.rows.items l.left.items l.tree
