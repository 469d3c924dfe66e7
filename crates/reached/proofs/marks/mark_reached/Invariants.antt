use Rattle.std.proofs.Common.{length}
use Rattle.plain.proofs.MarkFacts.{MarkedFrom}
use Rattle.llb.specs.Reach.{HasInput}
use Rattle.reached.proofs.marks.mark_reached.Given as goal

abbrev pub invariant-loop-at : goal.invariant-loop-at
invariant-loop-at l = MarkedFrom (HasInput l.vertices) (length l.vertices) l.fn.target l.at l.marks.items

abbrev pub decreases-loop-at : goal.decreases-loop-at
decreases-loop-at l = l.at
