-- What a build has to solve: a graph, the vertex whose tree is wanted, the configuration that goes with that tree, and the trees
-- of the graph's sources.
use Rattle.std.specs.Prelude.{◌≡◌, ◌<◌, ◌≤◌, ℕ, Some, Result, Ok, Err, List, [], ◌∷◌, length, slice_get, slice_index_or, refl}
use Rattle.std.specs.List.{All}
use Rattle.std.specs.Option.{option_map_or}
use Rattle.std.specs.Coded.{Coded, code_by, coded×, coded_ℕ}
use Rattle.trees.specs.TreeMap.{TreeMap}
use Rattle.trees.specs.Cause.{TreeOrCause}
use Rattle.trees.specs.declared.cause.Cause.{Cause}
use Rattle.runs.specs.declared.run.RunRequest.{RunRequest}
use Rattle.runs.specs.declared.run.CacheUse.{CacheUse}
use Rattle.llb.specs.declared.op.Op.{Op}
use Rattle.llb.specs.declared.op.Op.TheVariants.{Source as SourceOp, Exec as ExecOp, Copy as CopyOp, MakeDirs as MakeDirsOp, Merge as MergeOp}
use Rattle.llb.specs.declared.vertex.Vertex.{Vertex}
use Rattle.llb.specs.contracts.graph.Graph as graph
use Rattle.llb.specs.Graph.{GraphValue, IsGraph}
use Rattle.llb.specs.Places.{least_line}
use Rattle.llb.specs.Reach.{Reaches}
use Rattle.plans.specs.Sources.{SourcesValue, sources_code, HasSources}
use Rattle.plans.specs.Request.{request_of}
use Rattle.plans.specs.Value.{Out, Value, value_of}

-- a plan, for whatever a configuration is
pub record PlanValue (C : Type 0) : Type 0 where
  pub graph : GraphValue
  pub target : ℕ
  pub config : C
  pub sources : SourcesValue

-- a plan in plain data, for generic code (own)
abbrev pub plan_code : {C : Type 0} → Coded C → Coded (PlanValue C)
plan_code c =
    code_by (GraphValue × (ℕ × (_ × SourcesValue))) (coded× graph.the_row.coded (coded× coded_ℕ (coded× c sources_code)))
    (λ p. (p.graph, (p.target, (p.config, p.sources))))
    (λ t. record { graph = t.0; target = t.1.0; config = t.1.1.0; sources = t.1.1.1 })
    (λ _. refl)

-- a plan's target is in its graph, and each source of the graph has its tree
pub record IsPlan {C : Type 0} (plan : PlanValue C) : Type 0 where
  pub graph : IsGraph plan.graph
  pub target : plan.target < length plan.graph.vertices
  pub sources : HasSources plan.sources plan.graph.vertices

-- what is to be solved, without the configuration: an executor's answers, the sources, the vertices, the lines behind each, and
-- the target's id
pub record Problem : Type 0 where
  pub out : Out
  pub sources : SourcesValue
  pub vertices : List Vertex
  pub places : List (List ℕ)
  pub target : ℕ

-- the problem of a plan under an executor
abbrev pub problem_of : {C : Type 0} → Out → PlanValue C → Problem
problem_of out plan =
    record { out = out; sources = plan.sources; vertices = plan.graph.vertices; places = plan.graph.places; target = plan.target }

-- the value of a vertex of the problem
unfoldable pub vertex_value : Problem → ℕ → Value
vertex_value problem id = value_of problem.out problem.sources problem.vertices id

-- a vertex of the problem has this value
abbrev pub IsValue : Problem → ℕ → TreeOrCause → Type 0
IsValue problem id value = vertex_value problem id ≡ Some value

-- the target needs every vertex: each one is the target or is reached from it by inputs (own)
abbrev pub NeedsAll : Problem → Type 0
NeedsAll problem = (vertex : ℕ) → vertex < length problem.vertices → Reaches problem.vertices problem.target vertex

-- the least line behind a vertex of the problem; 0 where there is none (own)
abbrev pub line_at : Problem → ℕ → ℕ
line_at problem vertex = least_line (slice_index_or problem.places vertex [])

-- the lines of a problem are in order: no input's least line is greater than its vertex's (own)
abbrev pub HasLinesInOrder : Problem → Type 0
HasLinesInOrder problem =
    (vertex : ℕ) (v : Vertex) → slice_get problem.vertices vertex ≡ Some v → All (λ input. line_at problem input ≤ line_at problem vertex) v.inputs

-- the caches that an operation uses, in their order
abbrev pub caches_of : Op → List CacheUse
caches_of (SourceOp source) = []
caches_of (ExecOp exec) = exec.caches
caches_of (CopyOp files) = []
caches_of (MakeDirsOp path) = []
caches_of MergeOp = []

-- the caches that a vertex of a graph uses
abbrev pub uses_in : List Vertex → ℕ → List CacheUse
uses_in vertices vertex = option_map_or (λ (v : Vertex). caches_of v.op) (slice_get vertices vertex) []

-- the caches that a vertex of the problem uses
abbrev pub uses_at : Problem → ℕ → List CacheUse
uses_at problem vertex = uses_in problem.vertices vertex

-- what a run leaves in its caches, by what they held before: what the executor may leave there, and nothing new where there is no run
abbrev pub IsLeftByRun : (RunRequest → List TreeMap → List TreeMap → Type 0) → Result RunRequest Cause → List TreeMap → List TreeMap → Type 0
IsLeftByRun leaves (Err cause) before after = after ≡ before
IsLeftByRun leaves (Ok request) before after = leaves request before after

-- what an operation on these trees leaves in its caches, by what they held before
abbrev pub IsLeftBy : (RunRequest → List TreeMap → List TreeMap → Type 0) → Op → List TreeMap → List TreeMap → List TreeMap → Type 0
IsLeftBy leaves (SourceOp source) trees before after = after ≡ before
IsLeftBy leaves (ExecOp exec) [] before after = after ≡ before
IsLeftBy leaves (ExecOp exec) (root ∷ trees) before after = IsLeftByRun leaves (request_of exec root trees) before after
IsLeftBy leaves (CopyOp files) trees before after = after ≡ before
IsLeftBy leaves (MakeDirsOp path) trees before after = after ≡ before
IsLeftBy leaves MergeOp trees before after = after ≡ before
