use Rattle.dockerfile.proofs.FaultsFacts.{CheckedSoFar}
use Rattle.dockerfile.proofs.checking.all_spelled.Given as goal

abbrev pub invariant-loop-line : goal.invariant-loop-line
invariant-loop-line l = CheckedSoFar l.initial.line-iterator.rest.items l.line-iterator.rest.items l.instructions l.refusals
