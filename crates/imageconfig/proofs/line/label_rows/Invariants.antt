use Rattle.std.proofs.Common.{drop}
use Rattle.scopes.specs.Scope.{value_in}
use Rattle.imageconfig.proofs.LineFacts.{IsLabelledSoFar}
use Rattle.imageconfig.proofs.line.label_rows.Given as goal

abbrev pub invariant-loop-label : goal.invariant-loop-label
invariant-loop-label l = IsLabelledSoFar (value_in l.before) l.labels (drop l.label-index l.labels) l.line
