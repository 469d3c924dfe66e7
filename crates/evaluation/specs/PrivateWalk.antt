-- Parts of a stage after those before it: what each of them answers.
use Rattle.std.specs.Prelude.{ℕ, Bool, List, Option, None, Result, Ok}
use Rattle.plain.specs.declared.fault.Fault.{Fault}
use Rattle.expand.specs.declared.reason.Rejection.{Rejection}
use Rattle.plans.specs.Images.{ImagesValue}
use Rattle.rows.specs.declared.row.Origin.{Origin}
use Rattle.rows.specs.declared.row.Stage.{Stage}
use Rattle.scopes.specs.Evaluate.{Values}
use Rattle.stages.specs.declared.stage.ResolvedInstruction.{ResolvedInstruction}
use Rattle.stages.specs.declared.stage.ResolvedStage.{ResolvedStage}
use Rattle.imageconfig.specs.declared.config.Config.{Config}
use Rattle.evaluation.specs.Evaluated.{no_stage}
use Rattle.evaluation.specs.Images.{ImageNames, with_origin, many_codes}
use Rattle.instructions.specs.Reason.{reason}
use Rattle.imageconfig.specs.Stage.{unless_due}
use Rattle.stages.specs.Resolved.{Returns}
use Rattle.evaluation.specs.PrivateKept.{opened_from, kept_stage, kept_next, kept_from}
use Rattle.evaluation.specs.PrivateStage.{begun_with}
use Rattle.evaluation.specs.Stages.{instructions_from}
use Rattle.evaluation.specs.declared.opening.Opened.{Opened}
use Rattle.evaluation.specs.declared.stage.Progress.{Progress}
use Rattle.evaluation.specs.declared.state.State.{State}
use Rattle.evaluation.specs.declared.walk.Walk.{Walk}

-- the names, unless they are too many
unfoldable pub AreFew : ImageNames → ℕ → Result ImageNames (Fault Rejection) → Type 0
AreFew names line result = Returns (unless_due (reason (many_codes names) None) line (Ok names)) result

-- the names with that of the image that a FROM of this line names, unless they are too many
unfoldable pub AreNamed : ImageNames → Origin → ℕ → Result ImageNames (Fault Rejection) → Type 0
AreNamed names base line result = Returns (unless_due (reason (many_codes (with_origin names base)) None) line (Ok (with_origin names base))) result

-- what a stage's instructions answer after what it begins with
unfoldable pub IsEnded : Values → Values → State → ImageNames → ℕ → Origin → List ResolvedInstruction → Result Progress (Fault Rejection) → Type 0
IsEnded args outer state names line base rs result =
    Returns (unless_due (reason (many_codes (with_origin names base)) None) line (instructions_from args outer (Ok (begun_with state (with_origin names base))) rs)) result

-- stages of these rows, states and names, unless there is no memory for them
unfoldable pub IsWalk : List (Option Stage) → List (Option State) → ImageNames → Result Walk (Fault Rejection) → Type 0
IsWalk rows states names result = Returns (Ok (record { rows = rows; states = states; names = names })) result

-- what a needed stage answers that has begun
unfoldable pub IsOpenedAdded : Values → Values → (ℕ → ℕ → Bool) → Opened → ResolvedStage → Result Walk (Fault Rejection) → Type 0
IsOpenedAdded args outer wants begun stage result = Returns (opened_from args outer wants begun stage) result

-- what a needed stage answers after those before it
unfoldable pub IsStageAdded : Values → Values → ImagesValue Config → (ℕ → ℕ → Bool) → Walk → ResolvedStage → Result Walk (Fault Rejection) → Type 0
IsStageAdded args outer images wants walk stage result = Returns (kept_stage args outer images wants walk stage) result

-- what a stage answers after those before it, with these marks
unfoldable pub IsNextStage : Values → Values → ImagesValue Config → List Bool → (ℕ → ℕ → Bool) → Walk → ResolvedStage → Result Walk (Fault Rejection) → Type 0
IsNextStage args outer images needed wants walk stage result = Returns (kept_next args outer images needed wants walk stage) result

-- what all stages answer
unfoldable pub AreStages : Values → Values → ImagesValue Config → List Bool → (ℕ → ℕ → Bool) → List ResolvedStage → Result Walk (Fault Rejection) → Type 0
AreStages args outer images needed wants stages result = Returns (kept_from args outer images needed wants (Ok no_stage) stages) result
