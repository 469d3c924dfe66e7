-- What leaving out vertices keeps (own).
use Rattle.std.specs.Prelude.{◌≡◌, ◌<◌, ◌↔◌, ℕ, List, Option, Some, Err, length, slice_get, Contains}
use Rattle.std.specs.List.{AllZip}
use Rattle.trees.specs.declared.cause.Cause.{Cause}
use Rattle.llb.specs.declared.vertex.Vertex.{Vertex}
use Rattle.llb.specs.Reach.{Reaches}
use Rattle.plans.specs.Plan.{PlanValue, problem_of, IsValue, vertex_value}
use Rattle.plans.specs.Value.{Out}
use Rattle.lowering.specs.Means.{lines_at}

-- the new numbers of vertices, by their old ones; none for one that was left out
abbrev pub Names : Type 0
Names = List (Option ℕ)

-- these are the new numbers of those vertices
abbrev pub AreNames : Names → List ℕ → List ℕ → Type 0
AreNames names olds news = AllZip (λ old new. slice_get names old ≡ Some (Some new)) olds news

-- the vertex is the other one, on the new numbers of its inputs
pub record IsRenamed (names : Names) (old new : Vertex) : Type 0 where
  pub op : new.op ≡ old.op
  pub inputs : AreNames names old.inputs new.inputs

-- A plan is another one without the vertices that the target doesn't reach: those that are kept come in their order, each on the same
-- inputs and with the same lines.
pub record IsPruned {C : Type 0} (old new : PlanValue C) : Type 0 where
  pub names : Names
  pub long : length names ≡ length old.graph.vertices
  pub reached : (k : ℕ) → Reaches old.graph.vertices old.target k ↔ ((id : ℕ) × (slice_get names k ≡ Some (Some id)))
  pub onto : (id : ℕ) → id < length new.graph.vertices → (k : ℕ) × (slice_get names k ≡ Some (Some id))
  pub ordered : (j k a b : ℕ) → slice_get names j ≡ Some (Some a) → slice_get names k ≡ Some (Some b) → j < k → a < b
  pub same : (k id : ℕ) (v : Vertex) → slice_get names k ≡ Some (Some id) → slice_get old.graph.vertices k ≡ Some v
      → (u : Vertex) × (slice_get new.graph.vertices id ≡ Some u) × IsRenamed names v u
  pub lines : (k id : ℕ) → slice_get names k ≡ Some (Some id) → lines_at new.graph id ≡ lines_at old.graph k
  pub last : slice_get names old.target ≡ Some (Some new.target)
  pub config : new.config ≡ old.config
  pub sources : new.sources ≡ old.sources

-- a vertex that the target reaches and that this line is behind has this cause
pub record HasReachedFailure {C : Type 0} (out : Out) (plan : PlanValue C) (line : ℕ) (cause : Cause) : Type 0 where
  pub id : ℕ
  pub reached : Reaches plan.graph.vertices plan.target id
  pub behind : Contains (lines_at plan.graph id) line
  pub value : IsValue (problem_of out plan) id (Err cause)

-- A plan means what another one does: the target's value, the configuration, the sources, and the lines and causes of the vertices that
-- the target reaches.
pub record KeepsMeaning {C : Type 0} (old new : PlanValue C) : Type 0 where
  pub config : new.config ≡ old.config
  pub sources : new.sources ≡ old.sources
  pub last : (out : Out) → vertex_value (problem_of out new) new.target ≡ vertex_value (problem_of out old) old.target
  pub failures : (out : Out) (line : ℕ) (cause : Cause) → HasReachedFailure out new line cause ↔ HasReachedFailure out old line cause
