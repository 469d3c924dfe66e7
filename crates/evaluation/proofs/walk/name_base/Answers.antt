use Rattle.evaluation.proofs.WalkFacts.{named_few, named_none}
use Rattle.evaluation.proofs.walk.name_base.Goals as goal

pub returns-in-Ok : goal.returns-in-Ok
returns-in-Ok c = named_few _ _ _ _ _ c.in-Ok.ensures c.refuse_many.ensures

pub returns-in-Err : goal.returns-in-Err
returns-in-Err c = named_none _ _ _
