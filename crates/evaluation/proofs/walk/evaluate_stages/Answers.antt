use Rattle.evaluation.proofs.WalkFacts.{all_kept, kept_none}
use Rattle.evaluation.proofs.walk.evaluate_stages.Goals as goal

pub returns-in-Ok : goal.returns-in-Ok
returns-in-Ok c = all_kept _ _ _ _ _ _ _ _ c.evaluate_in_turn.result c.as_slice.ensures.value c.in-Ok.ensures c.evaluate_in_turn.ensures

pub returns-in-Err : goal.returns-in-Err
returns-in-Err c = kept_none _ _ _ _ _ _
