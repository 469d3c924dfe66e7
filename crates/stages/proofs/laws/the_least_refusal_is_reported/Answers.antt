use Rattle.stages.proofs.RefusalFacts.{LeastLaws, refused_least, resolved_free}
use Rattle.stages.proofs.laws.the_least_refusal_is_reported.Goals as goal

pub returns : goal.returns
returns c =
    let laws : LeastLaws = record { is_least = c.the_least_reason_is_reported.ensures.least; is_free = c.the_least_reason_is_reported.ensures.none } in
    record { refused = refused_least laws; resolved = resolved_free laws }
