use Rattle.std.proofs.Common.{sym, ◌∙◌}
use Rattle.evaluation.proofs.StepFacts.{next_first, next_more, next_refused, next_all}
use Rattle.evaluation.proofs.stage.evaluate_instructions.Goals as goal

pub loop-resolved-init : goal.loop-resolved-init
loop-resolved-init c = next_first _ _ _ _

pub loop-resolved-preserved : goal.loop-resolved-preserved
loop-resolved-preserved c = next_more _ _ _ _ _ _ c.in-Some.resolved _ c.in-Ok.more c.loop-resolved.invariant c.in-Some.ensures.steps.0 c.in-Ok.ensures

pub returns-in-Err : goal.returns-in-Err
returns-in-Err c = next_refused _ _ _ _ _ _ _ c.in-Some.resolved _ c.in-Err.fault c.loop-resolved.invariant c.in-Some.ensures.steps.0
    c.into_iter-resolved-iterator.ensures.into_iter_gives.0 c.in-Err.ensures

pub returns : goal.returns
returns c = next_all _ _ _ _ _ _ _ c.loop-resolved.invariant (sym c.loop-resolved.resolved-iterator.rest.ok.0 ∙ c.in-None.ensures.steps.0)
    c.into_iter-resolved-iterator.ensures.into_iter_gives.0
