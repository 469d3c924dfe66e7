use Rattle.reached.proofs.FlatFacts.{FlatFrom}
use Rattle.reached.proofs.spelling.flatten_reached.Given as goal

abbrev pub invariant-loop-at : goal.invariant-loop-at
invariant-loop-at l = FlatFrom l.fn.vertices l.fn.target l.at l.marks.items l.vertices.items

abbrev pub decreases-loop-at : goal.decreases-loop-at
decreases-loop-at l = l.at
