use Rattle.evaluation.proofs.EvaluatedFacts.{made_with, made_with_none}
use Rattle.evaluation.proofs.evaluated.make_with.Goals as goal

pub returns-in-Ok : goal.returns-in-Ok
returns-in-Ok c = made_with _ _ _ _ _ _ _ c.in-Ok.ensures.sources c.in-Ok.ensures.few

pub returns-in-Err : goal.returns-in-Err
returns-in-Err c = made_with_none _ _ _ _ _ _
