use Rattle.evaluation.proofs.WalkFacts.{walk_put, walk_none}
use Rattle.evaluation.proofs.walk.end_walk.Goals as goal

pub returns-in-Ok : goal.returns-in-Ok
returns-in-Ok c = walk_put _ _ c.in-Ok.states _ c.in-Ok.ensures

pub returns-in-Err : goal.returns-in-Err
returns-in-Err c = walk_none _ _ _
