use Rattle.build.proofs.AnswerFacts.{one_graph_text}
use Rattle.build.proofs.laws.a_bundle_has_one_graph.Goals as goal

pub returns : goal.returns
returns c =
    let unique = c.answers_are_unique.ensures in
    one_graph_text (record { instructions = unique.instructions; refusals = unique.refusals; apart = unique.apart }) c.a_listing_has_one_context.ensures
