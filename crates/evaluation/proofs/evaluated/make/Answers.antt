use Rattle.evaluation.proofs.EvaluatedFacts.{made_of, made_none}
use Rattle.evaluation.proofs.evaluated.make.Goals as goal

pub returns-in-Ok : goal.returns-in-Ok
returns-in-Ok c =
    made_of c.args.images c.args.context c.args.target c.args.walk _ c.in-Ok.config c.make_with.result c.into_vec.ensures c.in-Ok.ensures c.make_with.ensures

pub returns-in-Err : goal.returns-in-Err
returns-in-Err c = made_none _ _ _ _
