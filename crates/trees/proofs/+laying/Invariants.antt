use Rattle.std.proofs.Common.{◌≡◌, ◌++◌, ◌+◌, List, ℕ, length}
use Rattle.trees.specs.PrivateNode.{NodeValue, height_of}
use Rattle.trees.proofs.OverSteps.{AreLaying}
use Rattle.trees.proofs.+laying.Given as goal

abbrev pub decreases-node::Node::lay_over : goal.decreases-node::Node::lay_over
decreases-node::Node::lay_over l = l.upper.now.height + l.upper.now.height + 1

abbrev pub decreases-inner::Inner::lay_over : goal.decreases-inner::Inner::lay_over
decreases-inner::Inner::lay_over l = l.upper.now.height + l.upper.now.height

abbrev pub decreases-children::Children::lay_over : goal.decreases-children::Children::lay_over
decreases-children::Children::lay_over l = height_of l.upper.now + height_of l.upper.now + 1

-- the children laid so far, with those that are left, do what all of them do to the first
abbrev pub invariant-children::Children::lay_over-loop-name : goal.invariant-children::Children::lay_over-loop-name
invariant-children::Children::lay_over-loop-name l = AreLaying l.initial.self l.upper l.self l.uppers × ((before : List (List ℕ × NodeValue)) × (before ++ l.uppers ≡ l.upper))

abbrev pub decreases-children::Children::lay_over-loop-name : goal.decreases-children::Children::lay_over-loop-name
decreases-children::Children::lay_over-loop-name l = length l.uppers
