use Rattle.evaluation.proofs.JudgingFacts.{needed_judged, needed_none}
use Rattle.evaluation.proofs.faults.judge_needed_stage.Goals as goal

pub returns-in-Ok : goal.returns-in-Ok
returns-in-Ok c = needed_judged _ _ _ _ c.args.judged c.in-Ok.opened c.args.stage _ c.in-Ok.ensures c.judge_opened.ensures

pub returns-in-Err : goal.returns-in-Err
returns-in-Err c = needed_none _ _ _ _ c.args.judged c.args.stage _
