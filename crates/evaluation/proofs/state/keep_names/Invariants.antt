use Rattle.std.specs.List.{All}
use Rattle.std.proofs.Common.{take}
use Rattle.stages.specs.declared.stage.ResolvedStage.{ResolvedStage}
use Rattle.evaluation.specs.PrivateNames.{IsProperBase}
use Rattle.evaluation.proofs.state.keep_names.Given as goal

abbrev pub invariant-loop-stage : goal.invariant-loop-stage
invariant-loop-stage l = All (λ (stage : ResolvedStage). IsProperBase l.images stage.base) (take l.stage-index l.stages)
