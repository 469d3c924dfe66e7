use Rattle.evaluation.proofs.WalkFacts.{added_opened, added_none}
use Rattle.evaluation.proofs.walk.evaluate_needed_stage.Goals as goal

pub returns-in-Ok : goal.returns-in-Ok
returns-in-Ok c = added_opened _ _ _ _ c.args.walk c.in-Ok.opened c.args.stage _ c.in-Ok.ensures c.evaluate_opened.ensures

pub returns-in-Err : goal.returns-in-Err
returns-in-Err c = added_none _ _ _ _ _ _
