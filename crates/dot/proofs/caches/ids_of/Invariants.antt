use Rattle.std.proofs.Common.{◌≡◌, drop}
use Rattle.dot.specs.Drawn.{ids_after, ids_of}
use Rattle.dot.proofs.caches.ids_of.Given as goal

abbrev pub invariant-loop-vertex : goal.invariant-loop-vertex
invariant-loop-vertex l = ids_after l.ids (drop l.vertex-index l.vertices) ≡ ids_of l.vertices
