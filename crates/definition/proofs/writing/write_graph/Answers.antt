use Rattle.definition.proofs.RoundTrip.{text-back}
use Rattle.definition.proofs.TextFacts.{text-written}
use Rattle.definition.proofs.writing.write_graph.Goals as goal

pub returns-in_ok-text-in-Ok-clause-written : goal.returns-in_ok-text-in-Ok-clause-written
returns-in_ok-text-in-Ok-clause-written c = text-written c.args.graph.now c.args.wanted _ _ c.in-Ok.ensures c.in_ok-text-in-Ok.ensures

pub returns-in_ok-text-in-Ok-clause-back : goal.returns-in_ok-text-in-Ok-clause-back
returns-in_ok-text-in-Ok-clause-back c =
    text-back c.args.graph.now c.args.wanted _ _ c.vertices-known.ensures.graph c.requires c.in-Ok.ensures c.in_ok-text-in-Ok.ensures
