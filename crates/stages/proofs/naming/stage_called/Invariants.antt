use Rattle.std.proofs.Common.{◌≡◌, drop}
use Rattle.stages.specs.Naming.{called_from, stage_called}
use Rattle.stages.proofs.naming.stage_called.Given as goal

abbrev pub invariant-loop-number : goal.invariant-loop-number
invariant-loop-number l = called_from l.number (drop l.number l.names) l.text ≡ stage_called l.names l.text
