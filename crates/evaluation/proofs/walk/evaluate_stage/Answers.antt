use Rattle.evaluation.proofs.WalkFacts.{ended_reported, ended_next}
use Rattle.evaluation.proofs.walk.evaluate_stage.Goals as goal

pub returns-in-Ok : goal.returns-in-Ok
returns-in-Ok c = ended_next _ _ _ _ c.in-Ok.names _ _ _ _ _ (cc) c.in-Ok.ensures c.evaluate_instructions.ensures

pub returns-in-Err : goal.returns-in-Err
returns-in-Err c = ended_reported _ _ _ _ _ _ _ c.in-Err.fault c.in-Err.ensures
