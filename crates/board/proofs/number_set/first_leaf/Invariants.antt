use Rattle.board.specs.PrivateNumbers.{IsSeen}
use Rattle.board.proofs.number_set.first_leaf.Given as goal

abbrev pub invariant-loop-low : goal.invariant-loop-low
invariant-loop-low l = IsSeen l.nodes l.leaf l.low l.high l.first

abbrev pub decreases-loop-low : goal.decreases-loop-low
decreases-loop-low l = l.high
