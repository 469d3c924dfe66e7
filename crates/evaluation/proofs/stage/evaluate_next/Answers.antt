use Rattle.evaluation.proofs.StepFacts.{next_stepped, next_none}
use Rattle.evaluation.proofs.stage.evaluate_next.Goals as goal

pub returns-in-Ok : goal.returns-in-Ok
returns-in-Ok c = next_stepped _ _ c.args.progress c.in-Ok.progress c.args.resolved _ _ c.in-Ok.ensures c.as_slice.ensures c.evaluate_named.ensures

pub returns-in-Err : goal.returns-in-Err
returns-in-Err c = next_none _ _ _ _
