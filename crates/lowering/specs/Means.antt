-- When a plan means a file's target (own).
use Rattle.std.specs.Prelude.{◌≡◌, ◌<◌, ◌↔◌, ℕ, List, [], Some, Err, length, slice_get, slice_index_or, Contains}
use Rattle.trees.specs.declared.cause.Cause.{Cause}
use Rattle.llb.specs.Graph.{GraphValue}
use Rattle.plans.specs.Plan.{PlanValue, problem_of, IsValue, vertex_value}
use Rattle.plans.specs.Sources.{SourcesValue}
use Rattle.plans.specs.Value.{Out, tree_of}
use Rattle.plans.specs.Value.{World}
use Rattle.lowering.specs.Meaning.{Rows, tree_of_stage, Fails}
use Rattle.lowering.specs.Vertices.{Tips, Places, HasPlace, AreNumbered, AreRowsLowered}

-- the world of an executor that answers so, and of sources
abbrev pub world : Out → SourcesValue → World
world out sources = record { out = out; sources = sources }

-- the lines behind a vertex
abbrev pub lines_at : GraphValue → ℕ → List ℕ
lines_at graph id = slice_index_or graph.places id []

-- a vertex of the plan that this line is behind has this cause
pub record HasFailure {C : Type 0} (out : Out) (plan : PlanValue C) (line : ℕ) (cause : Cause) : Type 0 where
  pub id : ℕ
  pub behind : Contains (lines_at plan.graph id) line
  pub value : IsValue (problem_of out plan) id (Err cause)

-- Under every executor the target has the stage's tree, and none where the stage has none. The lines and causes of the plan's vertices
-- are those of the instructions that fail.
pub record Means {C : Type 0} (plan : PlanValue C) (rows : Rows) (target : ℕ) : Type 0 where
  pub tree : (out : Out) → tree_of (vertex_value (problem_of out plan) plan.target) ≡ tree_of_stage (world out plan.sources) rows target
  pub failures : (out : Out) (line : ℕ) (cause : Cause) → HasFailure out plan line cause ↔ Fails (world out plan.sources) rows line cause

-- each vertex has a line behind it
abbrev pub AreLined : GraphValue → Type 0
AreLined graph = (id : ℕ) → id < length graph.vertices → (line : ℕ) × Contains (lines_at graph id) line

-- The graph is that of the file: its vertices stand for the file's instructions, the target is the last one of its stage, and the lines
-- behind each vertex are those of the instructions that it stands for. They come in the order of the file, and what an instruction names
-- comes before it, in its order.
pub record StandsFor {C : Type 0} (plan : PlanValue C) (rows : Rows) (target : ℕ) : Type 0 where
  pub tips : Tips
  pub places : Places
  pub lowered : AreRowsLowered plan.graph.vertices [] rows tips places
  pub order : AreNumbered 0 places (length plan.graph.vertices)
  pub last : slice_get tips target ≡ Some (Some plan.target)
  pub lines : (id line : ℕ) → Contains (lines_at plan.graph id) line ↔ HasPlace places line id
  pub lined : AreLined plan.graph
