use Rattle.evaluation.proofs.JudgingFacts.{opened_accepted, opened_refused, opened_none}
use Rattle.evaluation.proofs.faults.judge_opened.Goals as goal

pub returns-in-Ok : goal.returns-in-Ok
returns-in-Ok c =
    opened_accepted _ _ _ c.args.opened c.args.faults c.args.stage _ c.in-Ok.progress _ _ _ c.into_vec.ensures c.len-number.ensures c.is_wanted-is_wanted.ensures c.in-Ok.ensures c.accept_stage.ensures

pub returns-in-Err-Because : goal.returns-in-Err-Because
returns-in-Err-Because c =
    opened_refused _ _ _ c.args.opened c.args.faults c.args.stage _ _ c.in-Err-Because.refusal _ c.in-Err-Because.field-0-is c.into_vec.ensures
    c.in-Err-Because.ensures c.refuse_stage.ensures

pub returns-in-Err-Memory : goal.returns-in-Err-Memory
returns-in-Err-Memory c = opened_none _ _ _ c.args.opened c.args.faults c.args.stage _
