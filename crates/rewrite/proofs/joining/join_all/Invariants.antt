use Rattle.rewrite.proofs.JoinFacts.{JoinedSoFar, graph_of}
use Rattle.rewrite.proofs.joining.join_all.Given as goal

abbrev pub invariant-loop-vertex : goal.invariant-loop-vertex
invariant-loop-vertex l = JoinedSoFar (graph_of l.fn.vertices l.fn.places) l.marks l.vertex-iterator.rest.items l.at l.graph l.names.items
