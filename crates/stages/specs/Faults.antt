-- All faults of a file's stages: `resolved` answers the first line that is refused, and these are of each such line (own).
use Rattle.std.specs.Prelude.{◌≡◌, ◌++◌, ℕ, Bool, true, false, List, [], ◌∷◌, Option, Some, None, if◌then◌else◌}
use Rattle.plain.specs.declared.refusal.Code.TheVariants.{R05, R13}
use Rattle.expand.specs.declared.reason.Reason.{Reason}
use Rattle.expand.specs.declared.reason.Reason.TheVariants.{Coded}
use Rattle.expand.specs.declared.reason.Rejection.{Rejection}
use Rattle.instructions.specs.declared.instruction.Argument.{Argument}
use Rattle.instructions.specs.Instruction.{Instruction}
use Rattle.scopes.specs.Evaluate.{Values}
use Rattle.stages.specs.Naming.{Names, Known}
use Rattle.stages.specs.Before.{declared_by, stage_names}
use Rattle.stages.specs.Due.{reason_after}
use Rattle.stages.specs.Resolved.{target_of, are_arguments}

-- an instruction after stages of these names is an ARG before the first FROM
abbrev pub is_outer_argument : Names → Option (List Argument) → Bool
is_outer_argument [] (Some arguments) = true
is_outer_argument names declared = false

-- a refusal with its line, if there is a reason, and then those that come after; unless it is the last
abbrev pub reported_before : ℕ → Option Reason → Bool → List Rejection → List Rejection
reported_before line None is_last more = more
reported_before line (Some reason) is_last more = record { reason = reason; line = line } ∷ (if is_last then [] else more)

-- the refusals of some instructions after those before them: of each that is refused its line, with the least of its reasons. Each is judged
-- in its place, whatever is due for those before it; but the refusal of an ARG before the first FROM is the last, since it has no value that
-- the lines after it could be judged by (own)
abbrev pub refusals_after : Known → Values → List Instruction → List Instruction → List Rejection
refusals_after known args before [] = []
refusals_after known args before (i ∷ is) =
    reported_before i.line (reason_after known args before i.kind) (is_outer_argument (stage_names before) (declared_by i.kind))
    (refusals_after known args (before ++ i ∷ []) is)

-- R13, without a line, if there is no such target
abbrev pub target_refusals : Option ℕ → List Rejection
target_refusals None = record { reason = Coded R13; line = 0 } ∷ []
target_refusals (Some target) = []

-- R05 at line 1, if a file has no instruction other than ARG
abbrev pub empty_refusals : List Instruction → List Rejection
empty_refusals is = if are_arguments is then record { reason = Coded R05; line = 1 } ∷ [] else []

-- the refusals of a file with these images, build arguments and target: that of its target, that of a file without stages, and those of its
-- lines
unfoldable pub stage_refusals : Known → Values → Option (List ℕ) → List Instruction → List Rejection
stage_refusals known args target is =
    (target_refusals (target_of (stage_names is) target) ++ empty_refusals is) ++ refusals_after known args [] is

-- no ARG before the first FROM among some instructions is refused, so all that comes after them is judged
abbrev pub AreJudged : Known → Values → List Instruction → Type 0
AreJudged known args is = (before : List Instruction) (i : Instruction) (after : List Instruction) → is ≡ before ++ i ∷ after
    → is_outer_argument (stage_names before) (declared_by i.kind) ≡ true → reason_after known args before i.kind ≡ None
