use Rattle.std.proofs.Common.{◌≡◌, length, map, take}
use Rattle.llb.specs.declared.vertex.Vertex.{Vertex}
use Rattle.board.proofs.frontier.input_counts.Given as goal

abbrev pub invariant-loop-vertex : goal.invariant-loop-vertex
invariant-loop-vertex l = l.counts.items ≡ map (λ (v : Vertex). length v.inputs) (take l.vertex-index l.vertices)
