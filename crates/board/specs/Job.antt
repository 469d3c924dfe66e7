-- What contracts see of a job: an executor, and of a plan all but the configuration.
use Rattle.std.specs.Prelude.{ℕ, refl}
use Rattle.std.specs.Coded.{Coded, code_by, coded×, coded_ℕ}
use Rattle.llb.specs.contracts.graph.Graph as graph
use Rattle.llb.specs.Graph.{GraphValue}
use Rattle.plans.specs.Plan.{Problem}
use Rattle.plans.specs.Sources.{SourcesValue, sources_code}
use Rattle.plans.specs.Value.{Out}

-- an executor, a graph, the trees of its sources, and the vertex whose tree is wanted (own)
pub record JobValue (E : Type 0) : Type 0 where
  pub executor : E
  pub graph : GraphValue
  pub sources : SourcesValue
  pub target : ℕ

-- a job in plain data, for generic code (own)
abbrev pub job_code : {E : Type 0} → Coded E → Coded (JobValue E)
job_code {E} e =
    code_by (E × (GraphValue × (SourcesValue × ℕ)))
    (coded× e (coded× graph.the_row.coded (coded× sources_code coded_ℕ)))
    (λ j. (j.executor, (j.graph, (j.sources, j.target))))
    (λ t. record { executor = t.0; graph = t.1.0; sources = t.1.1.0; target = t.1.1.1 })
    (λ _. refl)

-- the problem of a job: its vertices under its executor's answers (own)
abbrev pub job_problem : {E : Type 0} → (E → Out) → JobValue E → Problem
job_problem out job =
    record { out = out job.executor; sources = job.sources; vertices = job.graph.vertices; places = job.graph.places; target = job.target }
