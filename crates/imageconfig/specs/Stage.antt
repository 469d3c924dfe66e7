-- The configuration after the lines of a stage (OCI image specification; Dockerfile reference).
use Rattle.std.specs.Prelude.{ℕ, List, [], ◌∷◌, Option, Some, None, Result, Ok, Err}
use Rattle.expand.specs.declared.reason.Reason.{Reason}
use Rattle.expand.specs.declared.reason.Rejection.{Rejection}
use Rattle.instructions.specs.Reason.{reason}
use Rattle.instructions.specs.Instruction.{Instruction}
use Rattle.scopes.specs.Evaluate.{Values}
use Rattle.imageconfig.specs.declared.config.Config.{Config}
use Rattle.imageconfig.specs.Steps.{due, fault, changed}

-- a line is refused if there is a reason to
abbrev pub unless_due : {X : Type 0} → Option Reason → ℕ → Result X Rejection → Result X Rejection
unless_due None line rest = rest
unless_due (Some why) line rest = Err (record { reason = why; line = line })

-- the configuration after instructions, each beside what gives names their values before it, or the first refusal
abbrev pub stage_config : Config → List (Values × Instruction) → Result Config Rejection
stage_config c [] = Ok c
stage_config c (step ∷ steps) =
    unless_due (reason (due step.0 c step.1.kind) (fault step.0 step.1.kind)) step.1.line (stage_config (changed step.0 c step.1.kind) steps)
