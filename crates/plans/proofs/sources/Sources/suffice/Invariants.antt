use Rattle.std.proofs.Common.{◌≡◌, ◌<◌, ℕ, Some, slice_get}
use Rattle.llb.specs.declared.vertex.Vertex.{Vertex}
use Rattle.plans.specs.Sources.{HasSource}
use Rattle.plans.proofs.sources.Sources.suffice.Given as goal

abbrev pub invariant-loop-vertex : goal.invariant-loop-vertex
invariant-loop-vertex l = (k : ℕ) (vertex : Vertex) → k < l.vertex-index → slice_get l.graph.vertices k ≡ Some vertex → HasSource l.self vertex.op
