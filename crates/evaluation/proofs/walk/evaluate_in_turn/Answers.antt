use Rattle.std.proofs.Common.{sym, ◌∙◌}
use Rattle.evaluation.proofs.WalkFacts.{stages_first, stages_more, stages_refused, stages_all}
use Rattle.evaluation.proofs.walk.evaluate_in_turn.Goals as goal

pub loop-stage-init : goal.loop-stage-init
loop-stage-init c = stages_first _ _ _ _ _ _ _ (cc)

pub loop-stage-preserved : goal.loop-stage-preserved
loop-stage-preserved c = stages_more _ _ _ _ _ _ _ _ c.in-Some.stage _ c.in-Ok.more c.loop-stage.invariant c.in-Some.ensures.steps.0 c.in-Ok.ensures

pub returns-in-Err : goal.returns-in-Err
returns-in-Err c = stages_refused _ _ _ _ _ _ _ _ _ c.in-Some.stage _ c.in-Err.fault c.loop-stage.invariant c.in-Some.ensures.steps.0
    c.into_iter-stage-iterator.ensures.into_iter_gives.0 c.in-Err.ensures

pub returns : goal.returns
returns c = stages_all _ _ _ _ _ _ _ _ _ c.loop-stage.invariant (sym c.loop-stage.stage-iterator.rest.ok.0 ∙ c.in-None.ensures.steps.0)
    c.into_iter-stage-iterator.ensures.into_iter_gives.0
