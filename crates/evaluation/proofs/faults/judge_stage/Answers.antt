use Rattle.evaluation.proofs.JudgingFacts.{judged_lost, judged_needed, judged_unneeded}
use Rattle.evaluation.proofs.faults.judge_stage.Goals as goal

pub returns-then-is_lost : goal.returns-then-is_lost
returns-then-is_lost c =
    judged_lost _ _ _ _ _ c.args.judged c.args.stage _ _ c.leave_out.result c.as_slice.ensures c.is_base_lost-is_lost.ensures c.if-is_lost.true c.leave_out.ensures

pub returns-then-is_marked : goal.returns-then-is_marked
returns-then-is_marked c =
    judged_needed _ _ _ _ _ c.args.judged c.args.stage _ _ _ _ c.judge_needed_stage.result c.as_slice.ensures c.is_base_lost-is_lost.ensures c.if-is_lost.false
    c.len.ensures c.is_marked.ensures c.if-is_marked.true c.judge_needed_stage.ensures

pub returns : goal.returns
returns c =
    judged_unneeded _ _ _ _ _ c.args.judged c.args.stage _ _ _ _ c.leave_out-2.result c.as_slice.ensures c.is_base_lost-is_lost.ensures c.if-is_lost.false
    c.len.ensures c.is_marked.ensures c.if-is_marked.false c.leave_out-2.ensures
