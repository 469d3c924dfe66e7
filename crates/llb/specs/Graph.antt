-- What a graph is: its vertices, each after its inputs and each once, and beside each vertex the lines behind it (own, after
-- BuildKit's LLB, where an operation names its inputs by digests and so can't stand before them).
use Rattle.std.specs.Prelude.{◌≡◌, ◌≢◌, ◌<◌, ◌≤◌, ℕ, ◌⊎◌, Some, Result, Ok, Err, List, [], ◌∷◌, ◌++◌, IsTrue, length, slice_get}
use Rattle.std.specs.List.{All}
use Rattle.plain.specs.Limits.{most_vertices}
use Rattle.plain.specs.declared.fault.Fault.{Fault}
use Rattle.plain.specs.declared.fault.Fault.TheVariants.{Because, Memory}
use Rattle.llb.specs.declared.vertex.Vertex.{Vertex}
use Rattle.llb.specs.declared.fault.Full.{Full}
use Rattle.llb.specs.WellFormed.{is_well_formed}
use Rattle.llb.specs.Places.{AreLines, places_with}

-- the vertices by their ids, and the lines behind each
pub record GraphValue : Type 0 where
  pub vertices : List Vertex
  pub places : List (List ℕ)

-- a vertex whose inputs have all smaller ids than n
abbrev pub IsAfterInputs : ℕ → Vertex → Type 0
IsAfterInputs n vertex = All (λ input. input < n) vertex.inputs

-- no vertex of the list is this one
abbrev pub IsNew : List Vertex → Vertex → Type 0
IsNew vertices vertex = (k : ℕ) → slice_get vertices k ≢ Some vertex

-- vertices of a graph: not too many, each once, each after its inputs, each well formed
pub record AreVertices (vertices : List Vertex) : Type 0 where
  pub few : length vertices ≤ most_vertices
  pub once : (j k : ℕ) (vertex : Vertex) → slice_get vertices j ≡ Some vertex → slice_get vertices k ≡ Some vertex → j ≡ k
  pub after : (k : ℕ) (vertex : Vertex) → slice_get vertices k ≡ Some vertex → IsAfterInputs k vertex
  pub well_formed : (k : ℕ) (vertex : Vertex) → slice_get vertices k ≡ Some vertex → IsTrue (is_well_formed vertex)

-- a graph: its vertices, and beside each its lines
pub record IsGraph (graph : GraphValue) : Type 0 where
  pub vertices : AreVertices graph.vertices
  pub beside : length graph.places ≡ length graph.vertices
  pub places : (k : ℕ) (lines : List ℕ) → slice_get graph.places k ≡ Some lines → AreLines lines

-- the vertex was in the graph under this id, and these lines were added to its lines
pub record IsFound (old new : GraphValue) (vertex : Vertex) (lines : List ℕ) (id : ℕ) : Type 0 where
  pub stood : slice_get old.vertices id ≡ Some vertex
  pub added : new ≡ record { vertices = old.vertices; places = places_with lines id old.places }

-- the vertex is new, there was room for it, and it is the last one now, with these lines
pub record IsAppended (old new : GraphValue) (vertex : Vertex) (lines : List ℕ) (id : ℕ) : Type 0 where
  pub fresh : IsNew old.vertices vertex
  pub room : length old.vertices < most_vertices
  pub last : id ≡ length old.vertices
  pub added : new ≡ record { vertices = old.vertices ++ vertex ∷ []; places = old.places ++ lines ∷ [] }

-- what adding a vertex answers: the id of the equal vertex, or that of the new one; or that the graph is full and the vertex
-- none of its vertices; or that there was no memory, which says nothing
abbrev pub Adds : GraphValue → GraphValue → Vertex → List ℕ → Result ℕ (Fault Full) → Type 0
Adds old new vertex lines (Ok id) = IsFound old new vertex lines id ⊎ IsAppended old new vertex lines id
Adds old new vertex lines (Err (Because full)) = (length old.vertices ≡ most_vertices) × IsNew old.vertices vertex
Adds old new vertex lines (Err Memory) = Unit {0}
