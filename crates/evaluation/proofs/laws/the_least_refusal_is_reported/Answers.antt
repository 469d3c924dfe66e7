use Rattle.evaluation.proofs.JudgedFacts.{LeastLaws, refused_least, evaluated_free}
use Rattle.evaluation.proofs.laws.the_least_refusal_is_reported.Goals as goal

pub returns : goal.returns
returns c =
    let laws : LeastLaws = record { is_least = c.the_least_reason_is_reported.ensures.least; is_free = c.the_least_reason_is_reported.ensures.none } in
    record { refused = refused_least laws; evaluated = evaluated_free laws }
