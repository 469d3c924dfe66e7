-- What the needed stages of a file are evaluated to, or why they are refused, and at which line.
use Rattle.std.specs.Prelude.{◌≡◌, ℕ, Bool, List, [], Option, Some, None, Result, Ok, Err, slice_index_or}
use Rattle.plain.specs.declared.fault.Fault.{Fault}
use Rattle.plain.specs.declared.fault.Fault.TheVariants.{Because, Memory}
use Rattle.expand.specs.declared.reason.Rejection.{Rejection}
use Rattle.trees.specs.TreeMap.{TreeMap}
use Rattle.plans.specs.Images.{ImagesValue}
use Rattle.scopes.specs.Evaluate.{Values}
use Rattle.scopes.specs.Scope.{value_in}
use Rattle.stages.specs.Needed.{AreNeeded}
use Rattle.stages.specs.Table.{TableValue}
use Rattle.imageconfig.specs.Reading.{plain}
use Rattle.imageconfig.specs.declared.config.Config.{Config}
use Rattle.evaluation.specs.Images.{AreSources}
use Rattle.evaluation.specs.Stages.{stages_from}
use Rattle.evaluation.specs.declared.evaluated.Evaluated.{Evaluated}
use Rattle.evaluation.specs.declared.walk.Walk.{Walk}
use Rattle.evaluation.specs.declared.state.State.{State}

-- no stage yet
abbrev pub no_stage : Walk
no_stage = record { rows = []; states = []; names = [] }

-- the needed stages of a table, in the order of the file, up to the first line that is refused (own)
abbrev pub evaluated : Values → ImagesValue Config → List Bool → TableValue → Result Walk Rejection
evaluated args images needed table = stages_from args (value_in table.outer) images needed (Ok no_stage) table.stages

-- the configuration of what a stage leaves
abbrev pub config_of : Option State → Config
config_of None = plain
config_of (Some state) = state.config

-- the configuration at the end of a stage (OCI image specification)
abbrev pub config_at : List (Option State) → ℕ → Config
config_at states number = config_of (slice_index_or states number None)

-- these are the rows of the stages, with the target's configuration, the context and the images that needed stages name
pub record IsMade (images : ImagesValue Config) (context : TreeMap) (number : ℕ) (walk : Walk) (made : Evaluated) : Type 0 where
  pub rows : made.rows ≡ walk.rows
  pub target : made.target ≡ number
  pub config : made.config ≡ config_at walk.states number
  pub sources : AreSources context images walk.names made.sources

-- what evaluating a table answers, with the marks of just the stages that its target needs: what its stages are evaluated to, or the
-- refusal of the first line that is refused; want of memory says nothing of it
abbrev pub EvaluatesTable : Values → ImagesValue Config → TreeMap → TableValue → Result Evaluated (Fault Rejection) → Type 0
EvaluatesTable args images context table (Ok made) =
    (needed : List Bool) × AreNeeded table.stages table.target needed × ((walk : Walk) × (evaluated args images needed table ≡ Ok walk) × IsMade images context table.target walk made)
EvaluatesTable args images context table (Err (Because refusal)) =
    (needed : List Bool) × AreNeeded table.stages table.target needed × (evaluated args images needed table ≡ Err refusal)
EvaluatesTable args images context table (Err Memory) = Unit {0}
