-- What is kept of stages: what each leaves while a needed stage is still to come that begins with it, and what the target leaves to the end. The
-- answer is the same as if all were kept (own).
use Rattle.std.specs.Prelude.{◌≡◌, ◌≤◌, ◌||◌, ◌⊎◌, ◌++◌, ℕ, suc, Bool, true, false, List, [], ◌∷◌, Option, Some, None, Result, Ok, Err, length, nat_eq, nat_lt, slice_get, slice_set, if◌then◌else◌}
use Rattle.plain.specs.Marks.{is_marked}
use Rattle.plain.specs.declared.fault.Fault.{Fault}
use Rattle.expand.specs.declared.reason.Rejection.{Rejection}
use Rattle.plans.specs.Images.{ImagesValue}
use Rattle.rows.specs.declared.row.Origin.{Origin}
use Rattle.rows.specs.declared.row.Origin.TheVariants.{Source as SourceOf, Stage as StageOf}
use Rattle.instructions.specs.Reason.{reason}
use Rattle.scopes.specs.Evaluate.{Values}
use Rattle.stages.specs.declared.stage.ResolvedStage.{ResolvedStage}
use Rattle.imageconfig.specs.Stage.{unless_due}
use Rattle.imageconfig.specs.declared.config.Config.{Config}
use Rattle.evaluation.specs.Evaluated.{no_stage}
use Rattle.evaluation.specs.Faults.{is_base_lost, refusals_in, after_judged}
use Rattle.evaluation.specs.Images.{with_origin, many_codes}
use Rattle.evaluation.specs.PrivateStage.{begun_with}
use Rattle.evaluation.specs.Refusals.{all_from}
use Rattle.evaluation.specs.Stages.{instructions_from, with_none, stages_from}
use Rattle.stages.specs.Resolved.{Returns}
use Rattle.evaluation.specs.State.{start}
use Rattle.evaluation.specs.declared.opening.Opened.{Opened}
use Rattle.evaluation.specs.declared.stage.Progress.{Progress}
use Rattle.evaluation.specs.declared.state.State.{State}
use Rattle.evaluation.specs.declared.users.Users.{Users}
use Rattle.evaluation.specs.declared.walk.Walk.{Walk}

-- how long it is wanted

-- a needed stage begins with the one of this number
pub record IsUser (needed : List Bool) (stages : List ResolvedStage) (number user : ℕ) : Type 0 where
  pub stage : ResolvedStage
  pub there : slice_get stages user ≡ Some stage
  pub marked : is_marked needed user ≡ true
  pub begins : stage.base ≡ StageOf number

-- what the stage of this number leaves is wanted where the stages from this one on are still to come: one of them begins with it, or it is the target
abbrev pub IsWanted : List Bool → List ResolvedStage → ℕ → ℕ → ℕ → Type 0
IsWanted needed stages target from number = (number ≡ target) ⊎ ((user : ℕ) × (from ≤ user) × IsUser needed stages number user)

-- a test whether what a stage leaves is wanted after another one has begun knows all that is
abbrev pub TellsWanted : List Bool → List ResolvedStage → ℕ → (ℕ → ℕ → Bool) → Type 0
TellsWanted needed stages target wants = (at number : ℕ) → IsWanted needed stages target (suc at) number → wants at number ≡ true

-- the last users with a needed stage of this number, which begins with this
abbrev pub with_user : List ℕ → Origin → ℕ → List ℕ
with_user last (SourceOf source) user = last
with_user last (StageOf number) user = slice_set last number user

-- the last user of a stage, if one is listed, comes after this stage
abbrev pub is_used_after : ℕ → Option ℕ → Bool
is_used_after at (Some last) = nat_lt at last
is_used_after at None = true

abbrev pub is_wanted : Users → ℕ → ℕ → Bool
is_wanted users at number = nat_eq number users.target || is_used_after at (slice_get users.last number)

-- the stages so far, of which not all is kept

-- without what the stage of this number leaves
abbrev pub without_state : Walk → ℕ → Walk
without_state walk number = record { rows = walk.rows; states = slice_set walk.states number None; names = walk.names }

-- once a stage has begun with this
abbrev pub left_by : (ℕ → ℕ → Bool) → Walk → Origin → Walk
left_by wants walk (SourceOf source) = walk
left_by wants walk (StageOf number) = if wants (length walk.rows) number then walk else without_state walk number

-- the next stage, which begins with this
abbrev pub opened : ImagesValue Config → (ℕ → ℕ → Bool) → Walk → Origin → Opened
opened images wants walk base = record { walk = left_by wants walk base; state = start images walk.states base }

-- what a stage leaves, if it is wanted
abbrev pub state_if : Bool → State → Option State
state_if true state = Some state
state_if false state = None

-- with one stage more, at whose end this is
abbrev pub with_kept : (ℕ → ℕ → Bool) → Walk → ResolvedStage → Progress → Walk
with_kept wants walk stage p = record {
  rows = walk.rows ++ Some (record { line = stage.line; base = stage.base; steps = p.steps }) ∷ [];
  states = walk.states ++ state_if (wants (length walk.rows) (length walk.rows)) p.state ∷ [];
  names = p.names;
}

-- the same of what its instructions gave
abbrev pub kept_ended : (ℕ → ℕ → Bool) → Walk → ResolvedStage → Result Progress Rejection → Result Walk Rejection
kept_ended wants walk stage (Ok p) = Ok (with_kept wants walk stage p)
kept_ended wants walk stage (Err refusal) = Err refusal

-- a needed stage that has begun
abbrev pub opened_from : Values → Values → (ℕ → ℕ → Bool) → Opened → ResolvedStage → Result Walk Rejection
opened_from args outer wants begun stage =
    unless_due (reason (many_codes (with_origin begun.walk.names stage.base)) None) stage.line
    (kept_ended wants begun.walk stage (instructions_from args outer (Ok (begun_with begun.state (with_origin begun.walk.names stage.base))) stage.instructions))

-- a needed stage
abbrev pub kept_stage : Values → Values → ImagesValue Config → (ℕ → ℕ → Bool) → Walk → ResolvedStage → Result Walk Rejection
kept_stage args outer images wants walk stage = opened_from args outer wants (opened images wants walk stage.base) stage

-- a stage, which is evaluated where it is needed
abbrev pub kept_next : Values → Values → ImagesValue Config → List Bool → (ℕ → ℕ → Bool) → Walk → ResolvedStage → Result Walk Rejection
kept_next args outer images needed wants walk stage =
    if is_marked needed (length walk.rows) then kept_stage args outer images wants walk stage else Ok (with_none walk)

-- stages in the order of the file, up to the first line that is refused
abbrev pub kept_from : Values → Values → ImagesValue Config → List Bool → (ℕ → ℕ → Bool) → Result Walk Rejection → List ResolvedStage → Result Walk Rejection
kept_from args outer images needed wants so_far stages = all_from (kept_next args outer images needed wants) so_far stages

-- the walk that goes on after a refusal

-- a stage, which is left out if it isn't needed or begins with a lost one
abbrev pub kept_judged : Values → Values → ImagesValue Config → List Bool → (ℕ → ℕ → Bool) → Walk → ResolvedStage → Result Walk Rejection
kept_judged args outer images needed wants walk stage =
    if is_base_lost needed walk.states stage.base then Ok (with_none walk) else kept_next args outer images needed wants walk stage

-- the refusals of stages after those before them
abbrev pub kept_refusals : Values → Values → ImagesValue Config → List Bool → (ℕ → ℕ → Bool) → Walk → List ResolvedStage → List Rejection
kept_refusals args outer images needed wants walk [] = []
kept_refusals args outer images needed wants walk (stage ∷ stages) =
    refusals_in (kept_judged args outer images needed wants walk stage)
    ++ kept_refusals args outer images needed wants
    (after_judged (left_by wants walk stage.base) (kept_judged args outer images needed wants walk stage)) stages

-- what it has to do with the stages of which all is kept

-- the stages so far, up to the one of this number, are kept of these: all that is wanted from there on
pub record IsKept (needed : List Bool) (stages : List ResolvedStage) (target from : ℕ) (walk kept : Walk) : Type 0 where
  pub rows : kept.rows ≡ walk.rows
  pub names : kept.names ≡ walk.names
  pub long : length walk.rows ≡ from
  pub states_long : length walk.states ≡ from
  pub kept_long : length kept.states ≡ from
  pub each : (number : ℕ) → IsWanted needed stages target from number → slice_get kept.states number ≡ slice_get walk.states number

-- what all stages answer: what is kept of what they are evaluated to, or their refusal
unfoldable pub AreKept : Values → Values → ImagesValue Config → List Bool → ℕ → List ResolvedStage → Result Walk (Fault Rejection) → Type 0
AreKept args outer images needed target stages (Ok kept) =
    (walk : Walk) × (stages_from args outer images needed (Ok no_stage) stages ≡ Ok walk) × IsKept needed stages target (length stages) walk kept
AreKept args outer images needed target stages (Err fault) = Returns (stages_from args outer images needed (Ok no_stage) stages) (Err fault)
