use Rattle.scopes.specs.Scope.{value_in}
use Rattle.actions.proofs.SourceFacts.{gathered-more}
use Rattle.actions.proofs.sources.near_sources.Goals as goal

pub loop-source-preserved : goal.loop-source-preserved
loop-source-preserved c =
    gathered-more (value_in c.args.scope.now) c.into_iter-source-iterator.result.rest.items c.loop-source.source-iterator.rest.items c.next.new.self.rest.items c.in-Some.source c.loop-source.found c.in_ok-found.found
    c.in-Some.ensures.steps.0 c.loop-source.invariant c.in_ok-found.ensures
