use Rattle.std.proofs.Common.{length}
use Rattle.plain.proofs.MarkFacts.{MarkedFrom}
use Rattle.stages.specs.Needed.{Refers}
use Rattle.stages.proofs.marks.mark_needed.Given as goal

abbrev pub invariant-loop-at : goal.invariant-loop-at
invariant-loop-at l = MarkedFrom (Refers l.stages) (length l.stages) l.fn.target l.at l.marks.items

abbrev pub decreases-loop-at : goal.decreases-loop-at
decreases-loop-at l = l.at
