-- How a build of what a bundle asks for fails, if it does (own).
use Rattle.std.specs.Prelude.{◌≡◌, ℕ, List, Option, Some, None, Ok}
use Rattle.trees.specs.declared.cause.Cause.{Cause}
use Rattle.plans.specs.Value.{Out}
use Rattle.lacking.specs.Missing.{missed_source}
use Rattle.lacking.specs.declared.missing.Missed.{Missed}
use Rattle.imageconfig.specs.Reading.{config_in}
use Rattle.imageconfig.specs.declared.config.Config.{Config}
use Rattle.bundle.specs.Answer.{failed_text}
use Rattle.bundle.specs.Reading.{ReadsBundle}
use Rattle.bundle.specs.declared.whole.Bundle.{Bundle}
use Rattle.evaluation.specs.declared.evaluated.Evaluated.{Evaluated}
use Rattle.solver.specs.declared.solution.Solution.{Solution}
use Rattle.solver.specs.declared.solution.Solution.TheVariants as solution
use Rattle.build.specs.Meaning.{Asks, Tells}
use Rattle.answering.specs.declared.status.Status.TheVariants.{Built, Failed}

-- the line and the cause of a solution, if it is a failure
abbrev pub failure_in : Solution → Option (ℕ × Cause)
failure_in (solution.Built tree) = None
failure_in (solution.Failed vertex place cause) = Some (place, cause)

-- the line and the cause of the instruction that fails, if one does
abbrev pub IsFailureOf : Out → Evaluated → Option (ℕ × Cause) → Type 0
IsFailureOf out made None = (answer : List ℕ) × Tells out (Ok made) Built answer
IsFailureOf out made (Some failure) = Tells out (Ok made) Failed (failed_text failure.0 failure.1)

-- a bundle isn't refused
abbrev pub IsAccepted : List ℕ → Type 0
IsAccepted bytes = (made : Evaluated) × Asks bytes (Ok made)

-- the Dockerfile of the bundle that bytes are
abbrev pub IsDockerfileOf : List ℕ → List ℕ → Type 0
IsDockerfileOf bytes text = (bundle : Bundle Config) × ReadsBundle config_in bytes (Ok bundle) × (text ≡ bundle.dockerfile)

-- the source that the instruction on a line of a bundle misses which fails with this cause
abbrev pub IsMissedOf : List ℕ → ℕ → Cause → Option Missed → Type 0
IsMissedOf bytes line cause found = (made : Evaluated) × Asks bytes (Ok made) × (found ≡ missed_source made.sources made.rows line cause)
