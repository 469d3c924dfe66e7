use Rattle.definition.proofs.ReadingFacts.{with-addresses, with-few}
use Rattle.definition.proofs.known.Known.with.Goals as goal

pub push-requires-clause-few : goal.push-requires-clause-few
push-requires-clause-few c = with-few c.self.inside.graph c.args.self c.self.inside.addresses c.self.view_is c.self.invariant c.requires.few

pub invariant_of-result : goal.invariant_of-result
invariant_of-result c =
    with-addresses c.self.inside.graph c.args.self c.add_all.new.self c.args.vertex c.args.lines.now _ c.self.inside.addresses _ c.args.address c.in-Ok.ensures.adds c.self.view_is c.requires.fresh c.self.invariant c.requires.address
    c.in_ok-push.ensures.ok
