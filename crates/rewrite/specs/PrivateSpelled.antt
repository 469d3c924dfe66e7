-- Merges with their inputs spelled out, and how their lines come to the vertices that are equal to them in another graph.
use Rattle.std.specs.Prelude.{◌≡◌, ◌<◌, ◌⊎◌, ◌↔◌, ℕ, Bool, true, List, [], Option, Some, None, if◌then◌else◌, ◌&&◌, length, slice_get, slice_index_or, Contains}
use Rattle.plain.specs.Marks.{is_marked}
use Rattle.llb.specs.declared.op.Op.TheVariants.{Merge as MergeOp}
use Rattle.llb.specs.declared.vertex.Vertex.{Vertex}
use Rattle.llb.specs.Graph.{GraphValue}
use Rattle.lowering.specs.Means.{lines_at}
use Rattle.reached.specs.Reached.{AreReached}
use Rattle.reached.specs.Spelled.{flat_inputs, flat_vertex, flat_vertices, is_merge}
use Rattle.rewrite.specs.PrivateJoined.{AreJoined}
use Rattle.rewrite.specs.Pruned.{Names, IsRenamed}
use Rattle.rewrite.specs.declared.spelled.Spelled.{Spelled}

-- a merge with its inputs spelled out, and its lines; none for what isn't marked or is no merge
abbrev pub spelled_vertex : List Vertex → Vertex → List ℕ → Bool → Option Spelled
spelled_vertex vertices vertex lines mark =
    if mark && is_merge vertex.op then Some (record { inputs = flat_inputs vertices vertex.op vertex.inputs; lines = lines }) else None

-- the same of the vertices before a number, under their numbers
pub record AreSpelled (graph : GraphValue) (marks : List Bool) (at : ℕ) (spelled : List (Option Spelled)) : Type 0 where
  pub long : length spelled ≡ at
  pub each : (k : ℕ) (v : Vertex) → k < at → slice_get graph.vertices k ≡ Some v
      → slice_get spelled k ≡ Some (spelled_vertex graph.vertices v (lines_at graph k) (is_marked marks k))

-- a merge of these
abbrev pub merge_on : List ℕ → Vertex
merge_on inputs = record { op = MergeOp; inputs = inputs }

-- a merge of these, on their new numbers, stands in a graph under this number
abbrev pub HasMerge : List Vertex → Names → List ℕ → ℕ → Type 0
HasMerge vertices names inputs id = (vertex : Vertex) × (slice_get vertices id ≡ Some vertex) × IsRenamed names (merge_on inputs) vertex

-- the vertex that is equal to a merge, if there is one, has its lines too, and nothing else has changed
pub record TakesOne (old new : GraphValue) (names : Names) (one : Spelled) : Type 0 where
  pub vertices : new.vertices ≡ old.vertices
  pub beside : length new.places ≡ length new.vertices
  pub lines : (id line : ℕ) → Contains (lines_at new id) line ↔ (Contains (lines_at old id) line ⊎ (HasMerge old.vertices names one.inputs id × Contains one.lines line))

-- the same if there is a merge
abbrev pub TakesSome : GraphValue → GraphValue → Names → Option Spelled → Type 0
TakesSome old new names None = new ≡ old
TakesSome old new names (Some one) = TakesOne old new names one

-- a line of one of the merges before a number, which is equal to a vertex of a graph
pub record HasSpelled (vertices : List Vertex) (names : Names) (spelled : List (Option Spelled)) (at id line : ℕ) : Type 0 where
  pub k : ℕ
  pub low : k < at
  pub one : Spelled
  pub there : slice_get spelled k ≡ Some (Some one)
  pub equal : HasMerge vertices names one.inputs id
  pub behind : Contains one.lines line

-- vertices have the lines of the merges before a number that are equal to them too, and nothing else has changed
pub record TakesLines (old new : GraphValue) (names : Names) (spelled : List (Option Spelled)) (at : ℕ) : Type 0 where
  pub vertices : new.vertices ≡ old.vertices
  pub beside : length new.places ≡ length new.vertices
  pub lines : (id line : ℕ) → Contains (lines_at new id) line ↔ (Contains (lines_at old id) line ⊎ HasSpelled old.vertices names spelled at id line)

-- a graph on flat inputs
abbrev pub flat_graph : GraphValue → GraphValue
flat_graph old = record { vertices = flat_vertices old.vertices; places = old.places }

-- a vertex of a graph, on its flat inputs and under their new numbers, is one of another graph
pub record IsFlatOne (old new : GraphValue) (names : Names) (k id : ℕ) : Type 0 where
  pub vertex : Vertex
  pub there : slice_get old.vertices k ≡ Some vertex
  pub renamed : Vertex
  pub is : slice_get new.vertices id ≡ Some renamed
  pub same : IsRenamed names (flat_vertex old.vertices vertex) renamed

-- What the target reaches over flat inputs, of the vertices on their flat inputs, is joined in a graph. Each vertex has the lines of all that it is of
-- the vertices that the target reached.
pub record IsFlatOf (old : GraphValue) (target : ℕ) (new : GraphValue) (names : Names) : Type 0 where
  pub marks : List Bool
  pub reached : AreReached (flat_vertices old.vertices) target marks
  pub before : List Bool
  pub all : AreReached old.vertices target before
  pub joined : GraphValue
  pub are : AreJoined (flat_graph old) marks (length old.vertices) joined names
  pub vertices : new.vertices ≡ joined.vertices
  pub lines : (id line : ℕ) → id < length new.vertices
      → Contains (lines_at new id) line ↔ ((k : ℕ) × (is_marked before k ≡ true) × IsFlatOne old new names k id × Contains (lines_at old k) line)
