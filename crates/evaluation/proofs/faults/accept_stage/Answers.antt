use Rattle.evaluation.proofs.JudgingFacts.{stage_accepted}
use Rattle.evaluation.proofs.faults.accept_stage.Goals as goal

pub returns-in-Ok : goal.returns-in-Ok
returns-in-Ok c = stage_accepted _ _ _ c.in-Ok.walk c.args.faults c.in-Ok.ensures
