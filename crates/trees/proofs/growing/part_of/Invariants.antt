use Rattle.std.proofs.Common.{◌≡◌, ◌++◌, reverse}
use Rattle.trees.proofs.growing.part_of.Given as goal

-- the rows that were moved, and then those that are left
abbrev pub invariant-loop-row : goal.invariant-loop-row
invariant-loop-row l = l.rising.items ++ reverse l.rows.items ≡ reverse l.fn.rows.items

abbrev pub decreases-loop-row : goal.decreases-loop-row
decreases-loop-row l = goal.left-loop-row l
