-- What the bytes of a bundle ask for, and which answer says what it gives under an executor. What a file's stages give is run instruction
-- by instruction (`lowering`); nothing here knows a graph, a vertex or a worker.
use Rattle.std.specs.Prelude.{◌≡◌, ◌⊎◌, ℕ, List, Bool, Result, Ok, Err}
use Rattle.std.specs.FinMap.{entries, get}
use Rattle.plain.specs.declared.fault.Fault.TheVariants.{Because}
use Rattle.plain.specs.declared.refusal.Refusal.{Refusal}
use Rattle.expand.specs.Reasons.{rejection_of}
use Rattle.expand.specs.declared.reason.Rejection.{Rejection}
use Rattle.trees.specs.TreeMap.{TreeMap}
use Rattle.trees.specs.declared.cause.Cause.{Cause}
use Rattle.plans.specs.Value.{Out}
use Rattle.instructions.specs.Instruction.{Instruction}
use Rattle.dockerfile.specs.Dockerfile.{AreInstructions, IsRefused}
use Rattle.stages.specs.Naming.{names_in}
use Rattle.stages.specs.Resolved.{resolved}
use Rattle.stages.specs.Table.{TableValue}
use Rattle.stages.specs.Needed.{AreNeeded}
use Rattle.evaluation.specs.Evaluated.{evaluated, IsMade}
use Rattle.evaluation.specs.declared.evaluated.Evaluated.{Evaluated}
use Rattle.evaluation.specs.declared.walk.Walk.{Walk}
use Rattle.imageconfig.specs.Reading.{config_in}
use Rattle.imageconfig.specs.Writing.{config_data}
use Rattle.imageconfig.specs.declared.config.Config.{Config}
use Rattle.lowering.specs.Means.{world}
use Rattle.lowering.specs.Outcome.{IsOutcome}
use Rattle.bundle.specs.declared.whole.Bundle.{Bundle}
use Rattle.bundle.specs.Reading.{ReadsBundle}
use Rattle.bundle.specs.Answer.{built_text, failed_text, refused_text}
use Rattle.answering.specs.declared.status.Status.{Status}
use Rattle.answering.specs.declared.status.Status.TheVariants.{Built, Failed, Refused}

-- what a table of stages asks for, of which those with these marks are needed: what they are evaluated to, or the refusal of the first
-- line of them that is refused
abbrev pub StagesAsk : Bundle Config → List Bool → TableValue → Result Evaluated Rejection → Type 0
StagesAsk bundle needed table (Ok made) =
    (walk : Walk) × (evaluated (get bundle.args) bundle.images needed table ≡ Ok walk) × IsMade bundle.images bundle.context table.target walk made
StagesAsk bundle needed table (Err refusal) = evaluated (get bundle.args) bundle.images needed table ≡ Err refusal

-- what the stages of a file ask for: they are refused, or those that the target needs are evaluated
abbrev pub TableAsks : Bundle Config → Result TableValue Rejection → Result Evaluated Rejection → Type 0
TableAsks bundle (Err refusal) asked = asked ≡ Err refusal
TableAsks bundle (Ok table) asked = (needed : List Bool) × AreNeeded table.stages table.target needed × StagesAsk bundle needed table asked

-- what a bundle asks for: its Dockerfile's text is refused, or what its instructions' stages ask for
abbrev pub FileAsks : Bundle Config → Result Evaluated Rejection → Type 0
FileAsks bundle asked =
    ((refusal : Refusal) × IsRefused bundle.dockerfile refusal × (asked ≡ Err (rejection_of refusal)))
    ⊎ ((is : List Instruction) × AreInstructions bundle.dockerfile is
    × TableAsks bundle (resolved (names_in bundle.images) (get bundle.args) bundle.target is) asked)

-- What the bytes of a bundle ask for: the rows of a Dockerfile's stages, of which those that the target doesn't need are left out, with the
-- target, its configuration, and the trees that are there before the build. Or why they are refused: the least fault by phase, line and
-- number, the phases being the bundle, its ignore file, the Dockerfile's text, its lines, its instructions, its stages, and the evaluation of
-- those that are needed (own).
abbrev pub Asks : List ℕ → Result Evaluated Rejection → Type 0
Asks bytes asked =
    ((refusal : Refusal) × ReadsBundle config_in bytes (Err (Because refusal)) × (asked ≡ Err (rejection_of refusal)))
    ⊎ ((bundle : Bundle Config) × ReadsBundle config_in bytes (Ok bundle) × FileAsks bundle asked)

-- An answer of this status and text tells what is asked for: refused, with the refusal; built, with the target's tree and configuration,
-- only where there is that tree; failed, with the line and the cause of the first instruction that fails, only where there is none.
abbrev pub Tells : Out → Result Evaluated Rejection → Status → List ℕ → Type 0
Tells out (Ok made) Built text =
    (tree : TreeMap) × IsOutcome (world out made.sources) made.rows made.target (Ok tree) × (text ≡ built_text (config_data made.config) (entries tree))
Tells out (Ok made) Failed text =
    (line : ℕ) × (cause : Cause) × IsOutcome (world out made.sources) made.rows made.target (Err (line, cause)) × (text ≡ failed_text line cause)
Tells out (Ok made) Refused text = ⊥
Tells out (Err refusal) Built text = ⊥
Tells out (Err refusal) Failed text = ⊥
Tells out (Err refusal) Refused text = text ≡ refused_text refusal

-- An answer of this status and text is one to a bundle of these bytes, under an executor that answers so. There is just one, as the laws
-- `every_bundle_has_an_answer` and `a_bundle_has_one_answer` say.
pub record Answers (bytes : List ℕ) (out : Out) (status : Status) (text : List ℕ) : Type 0 where
  pub asked : Result Evaluated Rejection
  pub asks : Asks bytes asked
  pub tells : Tells out asked status text
