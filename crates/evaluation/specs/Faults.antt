-- All faults of the evaluation of a table: `evaluated` answers the first line that is refused, and these are the first of each needed stage
-- that there is something to evaluate from (own).
use Rattle.std.specs.Prelude.{◌≡◌, ◌&&◌, ◌++◌, ℕ, suc, zero, Bool, true, false, List, [], ◌∷◌, Option, Some, None, Result, Ok, Err, slice_get, if◌then◌else◌}
use Rattle.plain.specs.Marks.{is_marked}
use Rattle.expand.specs.declared.reason.Rejection.{Rejection}
use Rattle.plans.specs.Images.{ImagesValue}
use Rattle.rows.specs.declared.row.Origin.{Origin}
use Rattle.rows.specs.declared.row.Origin.TheVariants.{Source as SourceOf, Stage as StageOf}
use Rattle.scopes.specs.Evaluate.{Values}
use Rattle.scopes.specs.Scope.{value_in}
use Rattle.stages.specs.Needed.{AreNeeded}
use Rattle.stages.specs.Table.{TableValue}
use Rattle.stages.specs.declared.stage.ResolvedStage.{ResolvedStage}
use Rattle.imageconfig.specs.declared.config.Config.{Config}
use Rattle.evaluation.specs.Evaluated.{no_stage}
use Rattle.evaluation.specs.Stages.{with_none, next_stage}
use Rattle.evaluation.specs.declared.state.State.{State}
use Rattle.evaluation.specs.declared.walk.Walk.{Walk}

-- there is such a stage, and it leaves nothing
abbrev pub leaves_nothing : Option (Option State) → Bool
leaves_nothing (Some None) = true
leaves_nothing (Some (Some state)) = false
leaves_nothing None = false

-- a stage is lost: it is needed and leaves nothing, since a line of it is refused or what it begins with is lost
abbrev pub is_lost : List Bool → List (Option State) → ℕ → Bool
is_lost needed states number = is_marked needed number && leaves_nothing (slice_get states number)

-- what a stage begins with is lost. What it copies or mounts needn't have a state: a COPY and a mount name no more of a stage than its number
abbrev pub is_base_lost : List Bool → List (Option State) → Origin → Bool
is_base_lost needed states (SourceOf source) = false
is_base_lost needed states (StageOf number) = is_lost needed states number

-- a stage after those before it, of which some may be lost: a stage is left out that begins with a lost one, and else it is evaluated where it is
-- needed
abbrev pub judged_stage : Values → Values → ImagesValue Config → List Bool → Walk → ResolvedStage → Result Walk Rejection
judged_stage args outer images needed walk stage =
    if is_base_lost needed walk.states stage.base then Ok (with_none walk) else next_stage args outer images needed walk stage

-- the refusal of what is refused
abbrev pub refusals_in : Result Walk Rejection → List Rejection
refusals_in (Ok walk) = []
refusals_in (Err refusal) = refusal ∷ []

-- the stages so far with one more that is refused: it leaves nothing, and the images that later stages name are counted anew (own)
abbrev pub with_refused : Walk → Walk
with_refused walk = with_none (record { rows = walk.rows; states = walk.states; names = [] })

-- the stages so far with one more, whether it is refused or not
abbrev pub after_judged : Walk → Result Walk Rejection → Walk
after_judged walk (Ok more) = more
after_judged walk (Err refusal) = with_refused walk

-- the refusals of stages after those before them, in the order of the file: of each that is refused the one of its first line that is
abbrev pub refusals_after : Values → Values → ImagesValue Config → List Bool → Walk → List ResolvedStage → List Rejection
refusals_after args outer images needed walk [] = []
refusals_after args outer images needed walk (stage ∷ stages) =
    refusals_in (judged_stage args outer images needed walk stage)
    ++ refusals_after args outer images needed (after_judged walk (judged_stage args outer images needed walk stage)) stages

-- the refusals of the needed stages of a table
unfoldable pub evaluation_refusals : Values → ImagesValue Config → List Bool → TableValue → List Rejection
evaluation_refusals args images needed table = refusals_after args (value_in table.outer) images needed no_stage table.stages

-- these are the refusals of a table, with the marks of just the stages that its target needs
abbrev pub AreTableFaults : ImagesValue Config → Values → TableValue → List Rejection → Type 0
AreTableFaults images args table faults =
    (needed : List Bool) × AreNeeded table.stages table.target needed × (faults ≡ evaluation_refusals args images needed table)

-- what the stages before the one of this number leave, of some stages after those before them
abbrev pub walk_before : Values → Values → ImagesValue Config → List Bool → Walk → List ResolvedStage → ℕ → Walk
walk_before args outer images needed walk stages zero = walk
walk_before args outer images needed walk [] (suc number) = walk
walk_before args outer images needed walk (stage ∷ stages) (suc number) =
    walk_before args outer images needed (after_judged walk (judged_stage args outer images needed walk stage)) stages number

-- the stage of this number is refused so, evaluated after what the stages before it leave: it is needed, what it begins with isn't lost, and this is
-- the refusal of its first line that is refused
pub record IsStageRefused (args : Values) (images : ImagesValue Config) (needed : List Bool) (table : TableValue) (number : ℕ) (refusal : Rejection) : Type 0 where
  pub stage : ResolvedStage
  pub there : slice_get table.stages number ≡ Some stage
  pub judged : judged_stage args (value_in table.outer) images needed (walk_before args (value_in table.outer) images needed no_stage table.stages number) stage ≡ Err refusal
