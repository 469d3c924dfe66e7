-- The order of lines in the graph of a file (own).
use Rattle.std.specs.Prelude.{◌≡◌, ◌≤◌, ℕ, Some, slice_get, Contains}
use Rattle.std.specs.List.{All}
use Rattle.llb.specs.Graph.{GraphValue}
use Rattle.llb.specs.declared.vertex.Vertex.{Vertex}
use Rattle.lowering.specs.Means.{lines_at}

-- a vertex has a line that is no greater than this one
abbrev pub HasLineBy : GraphValue → ℕ → ℕ → Type 0
HasLineBy graph line id = (before : ℕ) × Contains (lines_at graph id) before × (before ≤ line)

-- for each line behind a vertex, each of the vertex's inputs has a line that is no greater
abbrev pub LinesInOrder : GraphValue → Type 0
LinesInOrder graph = (id line : ℕ) (vertex : Vertex) → slice_get graph.vertices id ≡ Some vertex → Contains (lines_at graph id) line
    → All (HasLineBy graph line) vertex.inputs
