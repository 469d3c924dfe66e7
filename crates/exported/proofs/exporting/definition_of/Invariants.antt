use Rattle.std.proofs.Common.{◌≡◌, [], drop}
use Rattle.exported.specs.Exporting.{all_placed, nothing}
use Rattle.exported.proofs.exporting.definition_of.Given as goal

-- what the vertices left make after those so far is what all make
abbrev pub invariant-loop-vertex : goal.invariant-loop-vertex
invariant-loop-vertex l =
    all_placed l.options l.names l.graph.places l.places l.draft (drop l.vertex-index l.graph.vertices)
    ≡ all_placed l.options l.names l.graph.places [] nothing l.graph.vertices
