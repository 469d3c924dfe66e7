use Rattle.rewrite.proofs.SpelledFacts.{NoneBefore}
use Rattle.rewrite.proofs.spelled.stands.Given as goal

abbrev pub invariant-loop-other : goal.invariant-loop-other
invariant-loop-other l = NoneBefore l.vertices l.vertex l.other-index
