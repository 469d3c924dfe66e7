use Rattle.std.proofs.Common.{◌≡◌, [], drop}
use Rattle.titles.specs.Stages.{stages_named}
use Rattle.titles.proofs.staged.stages_of.Given as goal

abbrev pub invariant-loop-number : goal.invariant-loop-number
invariant-loop-number l = stages_named l.names l.number (drop l.number l.stages) l.named ≡ stages_named l.names 0 l.stages []
