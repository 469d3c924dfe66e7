use Rattle.lowering.proofs.RowFacts.{RowsSoFar}
use Rattle.lowering.proofs.program.lower_rows.Given as goal

abbrev pub invariant-loop-row : goal.invariant-loop-row
invariant-loop-row l = RowsSoFar l.initial.row-iterator.rest.items l.row-iterator.rest.items l.graph l.tips.items
