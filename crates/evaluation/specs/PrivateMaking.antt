-- What is made of the stages.
use Rattle.std.specs.Prelude.{◌≡◌, ◌≤◌, ◌<◌, ℕ, List, Option, Some, Result, Ok, Err, length, slice_get}
use Rattle.std.specs.List.{All}
use Rattle.std.specs.FinMap.{len}
use Rattle.plain.specs.Limits.{most_images, most_lines}
use Rattle.plain.specs.declared.fault.Fault.{Fault}
use Rattle.plain.specs.declared.fault.Fault.TheVariants.{Because, Memory}
use Rattle.expand.specs.declared.reason.Rejection.{Rejection}
use Rattle.trees.specs.TreeMap.{TreeMap}
use Rattle.plans.specs.Images.{ImagesValue}
use Rattle.rows.specs.WellFormed.{IsWellFormed, HasTree, RowNames, count_of_steps}
use Rattle.rows.specs.Order.{IsInOrder, NeedsAllStages}
use Rattle.rows.specs.declared.row.Stage.{Stage}
use Rattle.stages.specs.Naming.{names_in}
use Rattle.stages.specs.Table.{TableValue, NamesKnown}
use Rattle.imageconfig.specs.declared.config.Config.{Config}
use Rattle.evaluation.specs.Evaluated.{IsMade}
use Rattle.evaluation.specs.Images.{ImageNames, AreSources}
use Rattle.evaluation.specs.declared.evaluated.Evaluated.{Evaluated}
use Rattle.evaluation.specs.declared.walk.Walk.{Walk}

-- these rows, with the trees of these images
pub record IsMadeWith (images : ImagesValue Config) (context : TreeMap) (number : ℕ) (rows : List (Option Stage)) (names : ImageNames) (config : Config) (made : Evaluated) : Type 0 where
  pub same_rows : made.rows ≡ rows
  pub same_target : made.target ≡ number
  pub same_config : made.config ≡ config
  pub are_sources : AreSources context images names made.sources
  pub few : len made.sources.images ≤ length names

-- the same of what is answered, unless there is no memory for it
unfoldable pub MakesWith : ImagesValue Config → TreeMap → ℕ → List (Option Stage) → ImageNames → Config → Result Evaluated (Fault Rejection) → Type 0
MakesWith images context number rows names config (Ok made) = IsMadeWith images context number rows names config made
MakesWith images context number rows names config (Err (Because refusal)) = ⊥
MakesWith images context number rows names config (Err Memory) = Unit {0}

-- what is made of all stages, unless there is no memory for it
unfoldable pub Makes : ImagesValue Config → TreeMap → ℕ → Walk → Result Evaluated (Fault Rejection) → Type 0
Makes images context number walk (Ok made) = IsMade images context number walk made × (len made.sources.images ≤ length walk.names)
Makes images context number walk (Err (Because refusal)) = ⊥
Makes images context number walk (Err Memory) = Unit {0}

-- what lowering asks for holds of what is made of a table
pub record IsWhole (images : ImagesValue Config) (table : TableValue) (made : Evaluated) : Type 0 where
  pub formed : IsWellFormed made.rows
  pub has_target : (stage : Stage) × (slice_get made.rows made.target ≡ Some (Some stage))
  pub named : All (NamesKnown (names_in images)) table.stages → All (RowNames (HasTree made.sources)) made.rows
  pub few_images : len made.sources.images ≤ most_images
  pub few_steps : count_of_steps made.rows < most_lines
  pub in_order : IsInOrder made.rows
  pub needs : NeedsAllStages made.rows made.target

-- the same of what is answered
unfoldable pub AnswersWhole : ImagesValue Config → TableValue → Result Evaluated (Fault Rejection) → Type 0
AnswersWhole images table (Ok made) = IsWhole images table made
AnswersWhole images table (Err fault) = Unit {0}
