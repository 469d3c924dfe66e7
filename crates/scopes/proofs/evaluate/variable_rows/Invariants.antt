use Rattle.std.proofs.Common.{◌≡◌, ◌++◌, map, drop}
use Rattle.scopes.specs.PrivateEvaluate.{row_of}
use Rattle.scopes.specs.PrivateMaps.{env_row_of}
use Rattle.scopes.specs.Scope.{HaveNames}
use Rattle.scopes.proofs.evaluate.variable_rows.Given as goal

abbrev pub invariant-loop-variable : goal.invariant-loop-variable
invariant-loop-variable l = (l.rows ++ map row_of (drop l.variable-index l.variables) ≡ map row_of l.variables) × HaveNames (map env_row_of l.rows)
