use Rattle.std.proofs.Common.{◌≡◌, Some, drop}
use Rattle.titles.specs.Stages.{stage_named}
use Rattle.titles.proofs.staged.stage_named.Given as goal

abbrev pub invariant-loop-resolved : goal.invariant-loop-resolved
invariant-loop-resolved l =
    stage_named (Some l.name) (drop l.resolved-index l.stage.instructions) l.named ≡ stage_named (Some l.name) l.stage.instructions l.fn.named
