use Rattle.evaluation.proofs.JudgingFacts.{all_judged, all_judged_none}
use Rattle.evaluation.proofs.faults.judge_stages.Goals as goal

pub returns-in-Ok : goal.returns-in-Ok
returns-in-Ok c = all_judged _ _ _ _ _ _ _ _ c.judge_in_turn.result c.as_slice.ensures.value c.in-Ok.ensures c.judge_in_turn.ensures

pub returns-in-Err : goal.returns-in-Err
returns-in-Err c = all_judged_none _ _ _ _ _ _
