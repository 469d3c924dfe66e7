use Rattle.evaluation.proofs.WalkFacts.{walk_rows, walk_none}
use Rattle.evaluation.proofs.walk.end_stage.Goals as goal

pub returns-in-Ok : goal.returns-in-Ok
returns-in-Ok c = walk_rows _ c.in-Ok.rows _ _ _ _ _ c.in-Ok.ensures c.state_if-state.ensures c.end_walk.ensures

pub returns-in-Err : goal.returns-in-Err
returns-in-Err c = walk_none _ _ _
