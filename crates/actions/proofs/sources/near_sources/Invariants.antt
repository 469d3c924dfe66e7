use Rattle.scopes.specs.Scope.{value_in}
use Rattle.actions.proofs.SourceFacts.{IsGathered}
use Rattle.actions.proofs.sources.near_sources.Given as goal

abbrev pub invariant-loop-source : goal.invariant-loop-source
invariant-loop-source l = IsGathered (value_in l.scope) l.initial.source-iterator.rest.items l.source-iterator.rest.items l.found
