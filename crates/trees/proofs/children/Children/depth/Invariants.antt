use Rattle.std.proofs.Common.{◌≤◌, ℕ, length}
use Rattle.trees.specs.PrivateNode.{joined, IsDepth}
use Rattle.trees.proofs.children.Children.depth.Given as goal

-- a number, no less than the depth of those before, is a depth of all if it is one of those that are left
abbrev pub invariant-loop-kid : goal.invariant-loop-kid
invariant-loop-kid l = (most : ℕ) → l.depth ≤ most → IsDepth most (joined l.kids) → IsDepth most (joined l.self)

abbrev pub decreases-loop-kid : goal.decreases-loop-kid
decreases-loop-kid l = length l.kids
