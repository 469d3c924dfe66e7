-- How the vertices that are marked come into a new graph, equal ones as one.
use Rattle.std.specs.Prelude.{◌≡◌, ◌<◌, ◌≤◌, ℕ, Bool, true, false, List, Option, Some, None, Ok, IsTrue, length, slice_get, Contains}
use Rattle.plain.specs.Limits.{most_vertices}
use Rattle.plain.specs.Marks.{is_marked}
use Rattle.llb.specs.declared.vertex.Vertex.{Vertex}
use Rattle.llb.specs.Graph.{GraphValue, Adds, IsNew}
use Rattle.llb.specs.Places.{AreLines}
use Rattle.llb.specs.Reach.{HasInput}
use Rattle.llb.specs.WellFormed.{is_well_formed}
use Rattle.lowering.specs.Means.{lines_at}
use Rattle.rewrite.specs.Pruned.{Names, IsRenamed}

-- a vertex has a new number
abbrev pub HasName : Names → ℕ → Type 0
HasName names old = (new : ℕ) × (slice_get names old ≡ Some (Some new))

-- all new numbers are in a graph
abbrev pub AreInside : Names → ℕ → Type 0
AreInside names n = (k id : ℕ) → slice_get names k ≡ Some (Some id) → id < n

-- What is marked can make a graph: there are not too many vertices, beside each are its lines, and each that is marked is well formed and
-- stands after its inputs, which are marked too. Two of them may be equal, so these needn't be the vertices of a graph.
pub record AreJoinable (old : GraphValue) (marks : List Bool) : Type 0 where
  pub few : length old.vertices ≤ most_vertices
  pub beside : length old.places ≡ length old.vertices
  pub places : (k : ℕ) (lines : List ℕ) → slice_get old.places k ≡ Some lines → AreLines lines
  pub long : length marks ≡ length old.vertices
  pub well_formed : (k : ℕ) (v : Vertex) → is_marked marks k ≡ true → slice_get old.vertices k ≡ Some v → IsTrue (is_well_formed v)
  pub inputs : (k input : ℕ) → is_marked marks k ≡ true → HasInput old.vertices k input → (input < k) × (is_marked marks input ≡ true)

-- no two of the vertices that are marked are equal
abbrev pub AreDistinct : List Vertex → List Bool → Type 0
AreDistinct vertices marks = (j k : ℕ) (v : Vertex) → is_marked marks j ≡ true → is_marked marks k ≡ true → slice_get vertices j ≡ Some v
    → slice_get vertices k ≡ Some v → j ≡ k

-- the vertex, on the new numbers of its inputs, isn't in the graph
abbrev pub ComesNew : GraphValue → Names → Vertex → Type 0
ComesNew graph names vertex = (renamed : Vertex) → IsRenamed names vertex renamed → IsNew graph.vertices renamed

-- a vertex is in a graph, on the new numbers of its inputs, and these are among its lines
pub record IsJoined (old new : GraphValue) (names : Names) (vertex : Vertex) (lines : List ℕ) (id : ℕ) : Type 0 where
  pub renamed : Vertex
  pub is : IsRenamed names vertex renamed
  pub adds : Adds old new renamed lines (Ok id)

-- the same where the vertex is marked; else nothing came
pub record IsNamedJoined (old new : GraphValue) (names : Names) (vertex : Vertex) (lines : List ℕ) (mark : Bool) (name : Option ℕ) : Type 0 where
  pub joined : mark ≡ true → (id : ℕ) × (name ≡ Some id) × IsJoined old new names vertex lines id
  pub skipped : mark ≡ false → (name ≡ None) × (new ≡ old)

-- of these vertices before a number those that are marked came to a new graph, equal ones as one, and nothing else did
pub record AreJoined (old : GraphValue) (marks : List Bool) (at : ℕ) (new : GraphValue) (names : Names) : Type 0 where
  pub long : length names ≡ at
  pub few : length new.vertices ≤ at
  pub beside : length new.places ≡ length new.vertices
  pub named : (k : ℕ) → k < at → is_marked marks k ≡ true → HasName names k
  pub marked : (k id : ℕ) → slice_get names k ≡ Some (Some id) → is_marked marks k ≡ true
  pub inside : AreInside names (length new.vertices)
  pub onto : (id : ℕ) → id < length new.vertices → (k : ℕ) × (slice_get names k ≡ Some (Some id))
  pub ordered : (k a b : ℕ) → slice_get names k ≡ Some (Some b) → a < b → (j : ℕ) × (j < k) × (slice_get names j ≡ Some (Some a))
  pub same : (k id : ℕ) (v : Vertex) → slice_get names k ≡ Some (Some id) → slice_get old.vertices k ≡ Some v
      → (u : Vertex) × (slice_get new.vertices id ≡ Some u) × IsRenamed names v u
  pub lines : (k id line : ℕ) → slice_get names k ≡ Some (Some id) → Contains (lines_at old k) line → Contains (lines_at new id) line
  pub only : (id line : ℕ) → id < length new.vertices → Contains (lines_at new id) line
      → (k : ℕ) × (slice_get names k ≡ Some (Some id)) × Contains (lines_at old k) line
