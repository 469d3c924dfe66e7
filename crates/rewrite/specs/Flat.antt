-- What a plan is once its links are put into one: a merge that is the first input of a merge is replaced by its inputs, and no other merge
-- is (the merge operation of BuildKit's LLB; where that may be done is own).
use Rattle.std.specs.Prelude.{◌≡◌, ◌≢◌, ◌<◌, ◌↔◌, ℕ, List, ◌∷◌, Some, length, slice_get, Contains}
use Rattle.llb.specs.declared.op.Op.TheVariants.{Merge as MergeOp}
use Rattle.llb.specs.declared.vertex.Vertex.{Vertex}
use Rattle.llb.specs.Reach.{Reaches}
use Rattle.plans.specs.Plan.{PlanValue}
use Rattle.lowering.specs.Means.{lines_at}
use Rattle.reached.specs.Spelled.{flat_vertex, flat_vertices}
use Rattle.rewrite.specs.Pruned.{Names, IsRenamed}

-- no merge is the first input of a merge
abbrev pub MergesAreFlat : List Vertex → Type 0
MergesAreFlat vertices = (merge first : ℕ) (v u : Vertex) (rest : List ℕ) → slice_get vertices merge ≡ Some v → v.op ≡ MergeOp → v.inputs ≡ first ∷ rest
    → slice_get vertices first ≡ Some u → u.op ≢ MergeOp

-- A vertex of a plan becomes one of another: the target reached it, and on its flat inputs, under their new numbers, it is that one. So does a
-- merge that was replaced wherever it stood, if an equal one is left.
pub record Becomes {C : Type 0} (old new : PlanValue C) (names : Names) (k id : ℕ) : Type 0 where
  pub reached : Reaches old.graph.vertices old.target k
  pub vertex : Vertex
  pub there : slice_get old.graph.vertices k ≡ Some vertex
  pub renamed : Vertex
  pub is : slice_get new.graph.vertices id ≡ Some renamed
  pub same : IsRenamed names (flat_vertex old.graph.vertices vertex) renamed

-- A plan is another one with its vertices on their flat inputs, without those that the target doesn't reach then. Vertices that became
-- equal are one, which stands where the first of those stood that are reached then, and has the lines of all that became it.
pub record IsFlattened {C : Type 0} (old new : PlanValue C) : Type 0 where
  pub names : Names
  pub long : length names ≡ length old.graph.vertices
  pub reached : (k : ℕ) → Reaches (flat_vertices old.graph.vertices) old.target k ↔ ((id : ℕ) × (slice_get names k ≡ Some (Some id)))
  pub onto : (id : ℕ) → id < length new.graph.vertices → (k : ℕ) × (slice_get names k ≡ Some (Some id))
  pub ordered : (k a b : ℕ) → slice_get names k ≡ Some (Some b) → a < b → (j : ℕ) × (j < k) × (slice_get names j ≡ Some (Some a))
  pub same : (k id : ℕ) (v : Vertex) → slice_get names k ≡ Some (Some id) → slice_get old.graph.vertices k ≡ Some v
      → (u : Vertex) × (slice_get new.graph.vertices id ≡ Some u) × IsRenamed names (flat_vertex old.graph.vertices v) u
  pub lines : (id line : ℕ) → id < length new.graph.vertices
      → Contains (lines_at new.graph id) line ↔ ((k : ℕ) × Becomes old new names k id × Contains (lines_at old.graph k) line)
  pub last : slice_get names old.target ≡ Some (Some new.target)
  pub config : new.config ≡ old.config
  pub sources : new.sources ≡ old.sources
