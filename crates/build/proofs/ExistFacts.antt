-- Every bundle has an answer: its bytes ask for something or are refused, and what they ask for has an outcome.
use Rattle.std.proofs.Common.{◌≡◌, ◌⊎◌, inl, inr, ℕ, Bool, List, Option, Some, Result, Ok, Err, refl}
use Rattle.std.specs.Prelude.{slice_get}
use Rattle.std.specs.List.{All}
use Rattle.std.specs.FinMap.{entries, get}
use Rattle.serde_json.specs.Data.{Data}
use Rattle.plain.specs.declared.fault.Fault.TheVariants.{Because}
use Rattle.plain.specs.declared.refusal.Refusal.{Refusal}
use Rattle.expand.specs.Reasons.{rejection_of}
use Rattle.expand.specs.declared.reason.Rejection.{Rejection}
use Rattle.trees.specs.TreeMap.{TreeMap}
use Rattle.trees.specs.declared.cause.Cause.{Cause}
use Rattle.plans.specs.Images.{ImagesValue}
use Rattle.plans.specs.declared.images.Image as image
use Rattle.plans.specs.Value.{Out, World}
use Rattle.rows.specs.Rows.{Rows}
use Rattle.rows.specs.WellFormed.{IsWellFormed, RowNames, HasTree}
use Rattle.rows.specs.declared.row.Stage.{Stage}
use Rattle.instructions.specs.Instruction.{Instruction}
use Rattle.dockerfile.specs.Dockerfile.{AreInstructions, IsRefused, IsDockerfile}
use Rattle.scopes.specs.Evaluate.{Values}
use Rattle.stages.specs.Naming.{Known, names_in}
use Rattle.stages.specs.Needed.{AreNeeded}
use Rattle.stages.specs.Resolved.{resolved}
use Rattle.stages.specs.Table.{TableValue, IsTable, NamesKnown}
use Rattle.imageconfig.specs.Environment.{IsEnvironment}
use Rattle.imageconfig.specs.Reading.{config_in}
use Rattle.imageconfig.specs.Writing.{config_data}
use Rattle.imageconfig.specs.declared.config.Config.{Config}
use Rattle.evaluation.specs.Evaluated.{evaluated, IsMade}
use Rattle.evaluation.specs.Evaluated as evaluation
use Rattle.evaluation.specs.Reached.{HaveEnvironments}
use Rattle.evaluation.specs.declared.evaluated.Evaluated.{Evaluated}
use Rattle.evaluation.specs.declared.walk.Walk.{Walk}
use Rattle.lowering.specs.Means.{world}
use Rattle.lowering.specs.Outcome.{IsOutcome}
use Rattle.bundle.specs.Answer.{built_text, failed_text, refused_text}
use Rattle.bundle.specs.Reading.{ReadsBundle}
use Rattle.bundle.specs.declared.whole.Bundle.{Bundle}
use Rattle.answering.specs.declared.status.Status.{Status}
use Rattle.answering.specs.declared.status.Status.TheVariants.{Built, Failed, Refused}
use Rattle.build.specs.Meaning.{TableAsks, FileAsks, Tells, Answers}

-- the laws of the crates below, as premises: what each phase gives
pub record PhaseLaws : Type 0 where
  pub read : (bytes : List ℕ) → ((bundle : Bundle Config) × ReadsBundle config_in bytes (Ok bundle)) ⊎ ((refusal : Refusal) × ReadsBundle config_in bytes (Err (Because refusal)))
  pub images : (bytes : List ℕ) (bundle : Bundle Config) → ReadsBundle config_in bytes (Ok bundle) → (name : List ℕ) (found : image.Image Config)
      → get bundle.images name ≡ Some found → (d : Data) × (config_in d ≡ Some found.config)
  pub environment : (d : Data) (config : Config) → config_in d ≡ Some config → IsEnvironment config.env
  pub texts : (text : List ℕ) → ((is : List Instruction) × AreInstructions text is) ⊎ ((refusal : Refusal) × IsRefused text refusal)
  pub file : (text : List ℕ) (is : List Instruction) → AreInstructions text is → IsDockerfile is
  pub table : (known : Known) (args : Values) (target : Option (List ℕ)) (is : List Instruction) (table : TableValue) → IsDockerfile is
      → resolved known args target is ≡ Ok table → IsTable table
  pub known : (known : Known) (args : Values) (target : Option (List ℕ)) (is : List Instruction) (table : TableValue)
      → resolved known args target is ≡ Ok table → All (NamesKnown known) table.stages
  pub evaluates : (args : Values) (images : ImagesValue Config) (context : TreeMap) (table : TableValue) → IsTable table
      → ((made : Evaluated) × evaluation.EvaluatesTable args images context table (Ok made)) ⊎ ((refusal : Rejection) × evaluation.EvaluatesTable args images context table (Err (Because refusal)))
  pub formed : (args : Values) (images : ImagesValue Config) (context : TreeMap) (needed : List Bool) (table : TableValue) (walk : Walk) (made : Evaluated)
      → IsTable table → AreNeeded table.stages table.target needed → HaveEnvironments images → evaluated args images needed table ≡ Ok walk
      → IsMade images context table.target walk made → IsWellFormed made.rows
  pub target : (args : Values) (images : ImagesValue Config) (context : TreeMap) (needed : List Bool) (table : TableValue) (walk : Walk) (made : Evaluated)
      → IsTable table → AreNeeded table.stages table.target needed → HaveEnvironments images → evaluated args images needed table ≡ Ok walk
      → IsMade images context table.target walk made → (stage : Stage) × (slice_get made.rows made.target ≡ Some (Some stage))
  pub named : (args : Values) (images : ImagesValue Config) (context : TreeMap) (needed : List Bool) (table : TableValue) (walk : Walk) (made : Evaluated)
      → IsTable table → AreNeeded table.stages table.target needed → HaveEnvironments images → All (NamesKnown (names_in images)) table.stages
      → evaluated args images needed table ≡ Ok walk → IsMade images context table.target walk made → All (RowNames (HasTree made.sources)) made.rows
  pub outcome : (w : World) (rows : Rows) (target : ℕ) (stage : Stage) → IsWellFormed rows → All (RowNames (HasTree w.sources)) rows
      → slice_get rows target ≡ Some (Some stage) → (outcome : Result TreeMap (ℕ × Cause)) × IsOutcome w rows target outcome

-- some status and text tell what is asked for
abbrev IsTold : Out → Result Evaluated Rejection → Type 0
IsTold out asked = (status : Status) × (text : List ℕ) × Tells out asked status text

-- what is asked for, and that it is told
abbrev IsAnswered : Out → (Result Evaluated Rejection → Type 0) → Type 0
IsAnswered out Ask = (asked : Result Evaluated Rejection) × Ask asked × IsTold out asked

refusal_told : (out : Out) (refusal : Rejection) → IsTold out (Err refusal)
refusal_told out refusal = (Refused, refused_text refusal, refl)

outcome_told : (out : Out) (made : Evaluated) (outcome : Result TreeMap (ℕ × Cause)) → IsOutcome (world out made.sources) made.rows made.target outcome → IsTold out (Ok made)
outcome_told out made (Ok tree) is = (Built, built_text (config_data made.config) (entries tree), (tree, is, refl))
outcome_told out made (Err failure) is = (Failed, failed_text failure.0 failure.1, (failure.0, failure.1, is, refl))

have_environments : PhaseLaws → (bytes : List ℕ) (bundle : Bundle Config) → ReadsBundle config_in bytes (Ok bundle) → HaveEnvironments bundle.images
have_environments laws bytes bundle read name found at =
    let from = laws.images bytes bundle read name found at in
    laws.environment from.0 found.config from.1

made_told : PhaseLaws → (out : Out) (bundle : Bundle Config) (needed : List Bool) (table : TableValue) (walk : Walk) (made : Evaluated) → HaveEnvironments bundle.images
    → IsTable table → All (NamesKnown (names_in bundle.images)) table.stages → AreNeeded table.stages table.target needed
    → evaluated (get bundle.args) bundle.images needed table ≡ Ok walk → IsMade bundle.images bundle.context table.target walk made → IsTold out (Ok made)
made_told laws out bundle needed table walk made environments whole known are went is =
    let args = get bundle.args in
    let target = laws.target args bundle.images bundle.context needed table walk made whole are environments went is in
    let found =
    laws.outcome (world out made.sources) made.rows made.target target.0
    (laws.formed args bundle.images bundle.context needed table walk made whole are environments went is)
    (laws.named args bundle.images bundle.context needed table walk made whole are environments known went is) target.1 in
    outcome_told out made found.0 found.1

table_answered : PhaseLaws → (out : Out) (bundle : Bundle Config) (table : TableValue) → HaveEnvironments bundle.images → IsTable table
    → All (NamesKnown (names_in bundle.images)) table.stages → IsAnswered out (TableAsks bundle (Ok table))
table_answered laws out bundle table environments whole known = elim (laws.evaluates (get bundle.args) bundle.images bundle.context table whole) [
  | inl (made, (needed, are, (walk, went, is))) ↦
      (Ok made, (needed, are, (walk, went, is)), made_told laws out bundle needed table walk made environments whole known are went is)
  | inr (refusal, (needed, are, told)) ↦ (Err refusal, (needed, are, told), refusal_told out refusal)
]

stages_answered : PhaseLaws → (out : Out) (bundle : Bundle Config) (is : List Instruction) (made : Result TableValue Rejection) → HaveEnvironments bundle.images → IsDockerfile is
    → resolved (names_in bundle.images) (get bundle.args) bundle.target is ≡ made → IsAnswered out (TableAsks bundle made)
stages_answered laws out bundle is (Err refusal) environments file e = (Err refusal, refl, refusal_told out refusal)
stages_answered laws out bundle is (Ok table) environments file e =
    table_answered laws out bundle table environments (laws.table (names_in bundle.images) (get bundle.args) bundle.target is table file e)
    (laws.known (names_in bundle.images) (get bundle.args) bundle.target is table e)

file_answered : PhaseLaws → (out : Out) (bundle : Bundle Config) → HaveEnvironments bundle.images → IsAnswered out (FileAsks bundle)
file_answered laws out bundle environments = elim (laws.texts bundle.dockerfile) [
  | inl read ↦
      let made = resolved (names_in bundle.images) (get bundle.args) bundle.target read.0 in
      let found = stages_answered laws out bundle read.0 made environments (laws.file bundle.dockerfile read.0 read.1) refl in
      (found.0, inr (read.0, read.1, found.1), found.2)
  | inr refused ↦ (Err (rejection_of refused.0), inl (refused.0, refused.1, refl), refusal_told out (rejection_of refused.0))
]

pub has_answer : PhaseLaws → (bytes : List ℕ) (out : Out) → (status : Status) × (text : List ℕ) × Answers bytes out status text
has_answer laws bytes out = elim (laws.read bytes) [
  | inl read ↦
      let found = file_answered laws out read.0 (have_environments laws bytes read.0 read.1) in
      (found.2.0, found.2.1, record { asked = found.0; asks = inr (read.0, read.1, found.1); tells = found.2.2 })
  | inr refused ↦
      (Refused, refused_text (rejection_of refused.0), record { asked = Err (rejection_of refused.0); asks = inl (refused.0, refused.1, refl); tells = refl })
]
