-- The states that evaluating a table comes to: what stands before each line of a needed stage, and at its end.
use Rattle.std.specs.Prelude.{◌≡◌, ℕ, Bool, true, List, ◌∷◌, ◌++◌, Some, Ok, length}
use Rattle.std.specs.FinMap.{get}
use Rattle.plain.specs.Marks.{is_marked}
use Rattle.plans.specs.Images.{ImagesValue}
use Rattle.plans.specs.declared.images.Image as image
use Rattle.scopes.specs.Evaluate.{Values}
use Rattle.scopes.specs.Scope.{value_in}
use Rattle.stages.specs.Table.{TableValue}
use Rattle.stages.specs.declared.stage.ResolvedInstruction.{ResolvedInstruction}
use Rattle.stages.specs.declared.stage.ResolvedStage.{ResolvedStage}
use Rattle.imageconfig.specs.EnvRows.{env_shown}
use Rattle.imageconfig.specs.Environment.{IsEnvironment}
use Rattle.imageconfig.specs.declared.config.Config.{Config}
use Rattle.evaluation.specs.Evaluated.{no_stage}
use Rattle.evaluation.specs.Stages.{instructions_from, begun, stages_from}
use Rattle.evaluation.specs.declared.stage.Progress.{Progress}
use Rattle.evaluation.specs.declared.state.State.{State}
use Rattle.evaluation.specs.declared.walk.Walk.{Walk}

-- evaluating a table comes to this state, in the stage of this number after these of its instructions: the stage is needed, and no line is
-- refused in the stages before it, nor among these. After none of them it is what the stage begins with, after all of them its end (own)
pub record ComesTo (args : Values) (images : ImagesValue Config) (needed : List Bool) (table : TableValue) (number : ℕ) (before : List ResolvedInstruction) (state : State) : Type 0 where
  pub earlier : List ResolvedStage
  pub stage : ResolvedStage
  pub later : List ResolvedStage
  pub stages : table.stages ≡ earlier ++ stage ∷ later
  pub at : length earlier ≡ number
  pub marked : is_marked needed number ≡ true
  pub walk : Walk
  pub walked : stages_from args (value_in table.outer) images needed (Ok no_stage) earlier ≡ Ok walk
  pub rest : List ResolvedInstruction
  pub instructions : stage.instructions ≡ before ++ rest
  pub progress : Progress
  pub went : instructions_from args (value_in table.outer) (Ok (begun images walk stage)) before ≡ Ok progress
  pub is : progress.state ≡ state

-- the environment of each image is one: its variables have names, and no two have the same (OCI image specification, Env; the names: POSIX).
-- A configuration's type keeps it
abbrev pub HaveEnvironments : ImagesValue Config → Type 0
HaveEnvironments images = (name : List ℕ) (found : image.Image Config) → get images name ≡ Some found → IsEnvironment found.config.env

-- the environment of the configuration is that of the scope: the variables that ENVs set, in the order in which their names came first,
-- with their last values, an image's as if ENVs had set them (OCI image specification, Env; Dockerfile reference, ENV)
abbrev pub HasScopesEnvironment : State → Type 0
HasScopesEnvironment state = env_shown state.scope ≡ state.config.env
