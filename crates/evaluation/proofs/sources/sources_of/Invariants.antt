use Rattle.std.specs.Vec.Iter.{into_iter_items}
use Rattle.evaluation.proofs.ImageFacts.{NamedSoFar}
use Rattle.evaluation.proofs.sources.sources_of.Given as goal

abbrev pub invariant-loop-name : goal.invariant-loop-name
invariant-loop-name l = NamedSoFar l.fn.context l.fn.images l.fn.names (into_iter_items l.name-iterator) l.sources
