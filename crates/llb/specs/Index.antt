-- The index beside a graph's vertices (own): the hashes of the first of them, under their numbers. The others are entered before a vertex is
-- looked for.
use Rattle.std.specs.Prelude.{◌≡◌, ◌<◌, ℕ, Some, List, length, get_or, slice_get}
use Rattle.llb.specs.declared.index.Index.{Index}
use Rattle.llb.specs.declared.vertex.Vertex.{Vertex}
use Rattle.llb.specs.Hash.{hash_of}

-- what was entered are the hashes of vertices, in their order
pub record IsIndexed (vertices : List Vertex) (index : Index) : Type 0 where
  pub entered : (k : ℕ) → k < length index.hashes.items → (vertex : Vertex) × (slice_get vertices k ≡ Some vertex) × (get_or index.hashes.items k 0 ≡ hash_of vertex)
