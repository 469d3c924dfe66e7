use Rattle.evaluation.proofs.WalkFacts.{added_reported, added_put}
use Rattle.evaluation.proofs.walk.evaluate_opened.Goals as goal

pub returns-in-Ok : goal.returns-in-Ok
returns-in-Ok c =
    added_put _ _ _ c.args.opened c.args.stage _ c.in-Ok.progress _ _ c.end_stage.result c.into_vec.ensures c.len-number.ensures c.is_wanted-is_wanted.ensures c.in-Ok.ensures c.end_stage.ensures

pub returns-in-Err : goal.returns-in-Err
returns-in-Err c = added_reported _ _ _ c.args.opened c.args.stage _ c.in-Err.fault c.into_vec.ensures c.in-Err.ensures
