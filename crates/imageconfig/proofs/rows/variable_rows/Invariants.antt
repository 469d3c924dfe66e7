use Rattle.std.proofs.Common.{◌≡◌, ◌++◌, map, take, drop}
use Rattle.plain.specs.Variable.{HaveNames}
use Rattle.imageconfig.specs.Environment.{row_of}
use Rattle.imageconfig.proofs.rows.variable_rows.Given as goal

abbrev pub invariant-loop-variable : goal.invariant-loop-variable
invariant-loop-variable l = (l.rows ++ map row_of (drop l.variable-index l.variables) ≡ map row_of l.variables)
    × HaveNames (take l.variable-index l.variables)
