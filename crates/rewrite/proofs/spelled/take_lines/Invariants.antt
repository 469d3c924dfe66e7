use Rattle.rewrite.specs.PrivateSpelled.{TakesLines}
use Rattle.rewrite.proofs.spelled.take_lines.Given as goal

abbrev pub invariant-loop-one : goal.invariant-loop-one
invariant-loop-one l = TakesLines l.fn.graph l.graph l.names l.spelled l.one-index
