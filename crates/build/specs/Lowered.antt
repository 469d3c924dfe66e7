-- What lowering a stage of a file answers: its plan, or why it is refused (own).
use Rattle.std.specs.Prelude.{◌≡◌, ℕ, Bool, false, not, List, [], ◌∷◌, Option, Some, None, option_map, Result, Ok, Err, length, nat_lt, if◌then◌else◌}
use Rattle.std.specs.List.{list_any}
use Rattle.std.specs.Option.{option_or}
use Rattle.plain.specs.declared.fault.Fault.{Fault}
use Rattle.plain.specs.declared.fault.Fault.TheVariants.{Because, Memory}
use Rattle.plain.specs.declared.refusal.Code.TheVariants.{R12, R13}
use Rattle.expand.specs.declared.reason.Reason.TheVariants.{Coded}
use Rattle.expand.specs.declared.reason.Rejection.{Rejection}
use Rattle.trees.specs.TreeMap.{TreeMap}
use Rattle.llb.specs.declared.op.Source.TheVariants.{Scratch, Context, Image}
use Rattle.plans.specs.Images.{ImagesValue}
use Rattle.plans.specs.Plan.{PlanValue, HasLinesInOrder, NeedsAll, problem_of}
use Rattle.plans.specs.Value.{Out}
use Rattle.rows.specs.declared.row.Origin.{Origin}
use Rattle.rows.specs.declared.row.Origin.TheVariants.{Source as SourceOf, Stage as StageOf}
use Rattle.scopes.specs.Evaluate.{Values}
use Rattle.stages.specs.Naming.{Known, names_in}
use Rattle.stages.specs.Table.{TableValue, StagesValue, targeted}
use Rattle.stages.specs.declared.stage.ResolvedInstruction.{ResolvedInstruction}
use Rattle.stages.specs.declared.stage.ResolvedStage.{ResolvedStage}
use Rattle.imageconfig.specs.declared.config.Config.{Config}
use Rattle.evaluation.specs.Evaluated.{EvaluatesTable}
use Rattle.evaluation.specs.declared.evaluated.Evaluated.{Evaluated}
use Rattle.lowering.specs.Means.{Means, StandsFor}
use Rattle.solver.specs.Solution.{IsSolution}
use Rattle.solver.specs.declared.solution.Solution.{Solution}
use Rattle.build.specs.Meaning.{Tells}
use Rattle.build.specs.Telling.{status_of, text_of}

-- an image is named that isn't known
abbrev pub is_lacking : Known → Origin → Bool
is_lacking known (SourceOf Scratch) = false
is_lacking known (SourceOf Context) = false
is_lacking known (SourceOf (Image name)) = not (known name)
is_lacking known (StageOf number) = false

-- the first line of some instructions that names an image which isn't known
abbrev pub lacking_inside : Known → List ResolvedInstruction → Option ℕ
lacking_inside known [] = None
lacking_inside known (r ∷ rs) = if list_any (is_lacking known) r.origins then Some r.instruction.line else lacking_inside known rs

-- that of a stage, which begins with its FROM
abbrev pub lacking_in : Known → ResolvedStage → Option ℕ
lacking_in known stage = if is_lacking known stage.base then Some stage.line else lacking_inside known stage.instructions

-- that of some stages
abbrev pub lacking_line : Known → List ResolvedStage → Option ℕ
lacking_line known [] = None
lacking_line known (stage ∷ stages) = option_or (lacking_in known stage) (lacking_line known stages)

-- What is against lowering the stage of this number with the images that are known: R13, without a line, if there is no such stage; else R12 at
-- the first line that names another image, as in a file that is resolved with these images, whether its stage is needed or not.
abbrev pub target_refusal : Known → StagesValue → ℕ → Option Rejection
target_refusal known file target =
    if nat_lt target (length file.stages)
    then option_map (λ line. record { reason = Coded R12; line = line }) (lacking_line known file.stages)
    else Some (record { reason = Coded R13; line = 0 })

-- A plan means what the stages that a target needs are evaluated to: under every executor its target has the stage's tree, and none where the stage
-- has none; its lines and causes are those of the instructions that fail; its configuration is the one at the stage's end. It stands for the
-- instructions, its target needs all of it, and its lines are in order. Whatever solves it tells what the stages give: the tree with the
-- configuration, or the line and the cause of the first instruction of the file that fails.
pub record IsPlanOf (made : Evaluated) (plan : PlanValue Config) : Type 0 where
  pub means : Means plan made.rows made.target
  pub stands : StandsFor plan made.rows made.target
  pub config : plan.config ≡ made.config
  pub sources : plan.sources ≡ made.sources
  pub needed : (out : Out) → NeedsAll (problem_of out plan)
  pub order : (out : Out) → HasLinesInOrder (problem_of out plan)
  pub tells : (out : Out) (solution : Solution) → IsSolution (problem_of out plan) solution → Tells out (Ok made) (status_of solution) (text_of plan.config solution)

-- what lowering the target of a table answers: the plan of what its needed stages are evaluated to, or the refusal of the first line of these stages
-- that is refused; want of memory says nothing of it
abbrev pub LowersTable : Values → ImagesValue Config → TreeMap → TableValue → Result (PlanValue Config) (Fault Rejection) → Type 0
LowersTable args images context table (Ok plan) = (made : Evaluated) × EvaluatesTable args images context table (Ok made) × IsPlanOf made plan
LowersTable args images context table (Err fault) = EvaluatesTable args images context table (Err fault)

-- what is answered, unless there is a refusal before it
abbrev pub AnswersUnless : {X : Type 0} → Option Rejection → (Result X (Fault Rejection) → Type 0) → Result X (Fault Rejection) → Type 0
AnswersUnless None Answers result = Answers result
AnswersUnless (Some refusal) Answers (Ok x) = ⊥
AnswersUnless (Some refusal) Answers (Err (Because found)) = found ≡ refusal
AnswersUnless (Some refusal) Answers (Err Memory) = Unit {0}

-- What lowering the stage of this number answers, with these build arguments, images and context: what is against it, else what lowering it as the
-- target of the file answers. Nothing of a stage that it doesn't need is evaluated.
abbrev pub Lowers : Values → ImagesValue Config → TreeMap → StagesValue → ℕ → Result (PlanValue Config) (Fault Rejection) → Type 0
Lowers args images context file target result =
    AnswersUnless (target_refusal (names_in images) file target) (LowersTable args images context (targeted file target)) result
