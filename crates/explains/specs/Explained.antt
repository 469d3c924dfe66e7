-- What a person is told of the build of a bundle: nothing if it gives a tree, else which instruction fails, or all faults (own).
use Rattle.std.specs.Prelude.{◌≡◌, ℕ, Bool, true, false, Option, Some, None, List, [], Ok}
use Rattle.expand.specs.declared.reason.Rejection.{Rejection}
use Rattle.trees.specs.declared.cause.Cause.{Cause}
use Rattle.plans.specs.Value.{Out}
use Rattle.evaluation.specs.declared.evaluated.Evaluated.{Evaluated}
use Rattle.lacking.specs.Missing.{missed_source}
use Rattle.lacking.specs.declared.missing.Missed.{Missed}
use Rattle.imageconfig.specs.Reading.{config_in}
use Rattle.imageconfig.specs.declared.config.Config.{Config}
use Rattle.bundle.specs.Answer.{failed_text, refused_text}
use Rattle.bundle.specs.Reading.{ReadsBundle}
use Rattle.bundle.specs.declared.whole.Bundle.{Bundle}
use Rattle.checks.specs.Checked.{IsCheckOf}
use Rattle.reasons.specs.Leaving.{LeavesWord}
use Rattle.reasons.specs.declared.leaving.LeavingLine.{LeavingLine}
use Rattle.checks.specs.Failing.{shown_failure, shown_left_out, shown_missing}
use Rattle.checks.specs.Shown.{readable_lines}
use Rattle.checks.specs.declared.checked.Checked.{Checked}
use Rattle.checks.specs.declared.form.Form.TheVariants.{Plain}
use Rattle.build.specs.Meaning.{Answers, Asks}
use Rattle.answering.specs.declared.status.Status.{Status}
use Rattle.answering.specs.declared.status.Status.TheVariants.{Built, Failed, Refused}

-- the line of the ignore file of the bundle that these bytes are which leaves a source out, if it is a path of the context and one does
abbrev pub IsLeftOutBy : List ℕ → List ℕ → Bool → Option LeavingLine → Type 0
IsLeftOutBy bytes source false left = left ≡ None
IsLeftOutBy bytes source true left = LeavesWord config_in bytes source (Ok left)

-- what is shown of a COPY that misses a source, by the line of the ignore file that leaves it out, if one does
abbrev pub shown_missed : List ℕ → List (List ℕ) → ℕ → List ℕ → Option LeavingLine → List ℕ
shown_missed file lines line source None = shown_missing file lines line source
shown_missed file lines line source (Some left) = shown_left_out file lines line source left.number left.text

-- what is shown of an instruction of a Dockerfile with these lines that failed with a cause, by the source that it misses, if that is known
abbrev pub ShowsMissed : List ℕ → List ℕ → List (List ℕ) → ℕ → Cause → Option Missed → List ℕ → Type 0
ShowsMissed file bytes lines line cause None text = text ≡ shown_failure file lines line cause
ShowsMissed file bytes lines line cause (Some found) text =
    (left : Option LeavingLine) × IsLeftOutBy bytes found.source found.is_context_path left × (text ≡ shown_missed file lines line found.source left)

-- what is shown of the instruction that begins on a line of the Dockerfile of the bundle that these bytes are, which failed with a cause
abbrev pub ShowsFailure : List ℕ → List ℕ → ℕ → Cause → List ℕ → Type 0
ShowsFailure file bytes line cause text =
    (bundle : Bundle Config) × ReadsBundle config_in bytes (Ok bundle)
    × ((made : Evaluated) × Asks bytes (Ok made) × ShowsMissed file bytes (readable_lines bundle.dockerfile) line cause (missed_source made.sources made.rows line cause) text)

-- What is told of a bundle of these bytes, whose Dockerfile is called so, under an executor, by the answer that a build gives: of one that gives a tree, nothing; of one that fails,
-- the instruction that the answer names, with its cause; of one that is refused, all its faults.
abbrev pub Explains : List ℕ → Out → List ℕ → Status → List ℕ → Type 0
Explains file out bytes Built text = (answer : List ℕ) × Answers bytes out Built answer × (text ≡ [])
Explains file out bytes Failed text = (line : ℕ) × (cause : Cause) × Answers bytes out Failed (failed_text line cause) × ShowsFailure file bytes line cause text
Explains file out bytes Refused text =
    (refusal : Rejection) × Answers bytes out Refused (refused_text refusal) × ((checked : Checked) × IsCheckOf file bytes Plain checked × (text ≡ checked.text))
