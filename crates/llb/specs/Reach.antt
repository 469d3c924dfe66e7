-- Which vertices of a graph a vertex rests on (own, after BuildKit's LLB, where an operation names its inputs).
use Rattle.std.specs.Prelude.{◌≡◌, ℕ, Some, List, slice_get, Contains}
use Rattle.plain.specs.Marks.{IsReached}
use Rattle.llb.specs.declared.vertex.Vertex.{Vertex}

-- a vertex has another one among its inputs
pub record HasInput (vertices : List Vertex) (vertex input : ℕ) : Type 0 where
  pub v : Vertex
  pub there : slice_get vertices vertex ≡ Some v
  pub among : Contains v.inputs input

-- a vertex is the target, or is reached from it by inputs
abbrev pub Reaches : List Vertex → ℕ → ℕ → Type 0
Reaches vertices target vertex = IsReached (HasInput vertices) target vertex
