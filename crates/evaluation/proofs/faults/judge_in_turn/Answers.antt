use Rattle.std.proofs.Common.{sym, ◌∙◌}
use Rattle.evaluation.proofs.JudgingFacts.{judged_first, judged_more, judged_none, judged_all}
use Rattle.evaluation.proofs.faults.judge_in_turn.Goals as goal

pub loop-stage-init : goal.loop-stage-init
loop-stage-init c = judged_first _ _ _ _ _ _ _ (cc)

pub loop-stage-preserved : goal.loop-stage-preserved
loop-stage-preserved c = judged_more _ _ _ _ _ _ _ _ c.in-Some.stage _ c.in-Ok.more c.loop-stage.invariant c.in-Some.ensures.steps.0 c.in-Ok.ensures

pub returns-in-Err : goal.returns-in-Err
returns-in-Err c = judged_none _ _ _ _ _ _ _

pub returns : goal.returns
returns c = judged_all _ _ _ _ _ _ _ _ _ c.loop-stage.invariant (sym c.loop-stage.stage-iterator.rest.ok.0 ∙ c.in-None.ensures.steps.0)
    c.into_iter-stage-iterator.ensures.into_iter_gives.0
