use Rattle.std.proofs.Common.{◌≡◌, drop}
use Rattle.executor.specs.Fixture.{value_in}
use Rattle.executor.proofs.command.value_in.Given as goal

-- the variables that are left have the value
abbrev pub invariant-loop-variable : goal.invariant-loop-variable
invariant-loop-variable l = value_in l.name (drop l.variable-index l.env) ≡ value_in l.name l.env
