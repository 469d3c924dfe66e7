use Rattle.build.proofs.AnswerFacts.{one_thing}
use Rattle.build.proofs.laws.a_bundle_asks_for_one_thing.Goals as goal

pub returns : goal.returns
returns c =
    let unique = c.answers_are_unique.ensures in
    one_thing (record { instructions = unique.instructions; refusals = unique.refusals; apart = unique.apart }) c.a_listing_has_one_context.ensures
