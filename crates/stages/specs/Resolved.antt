-- What a file's instructions are resolved to, or for which reason and at which line they are refused.
use Rattle.std.specs.Prelude.{◌≡◌, ◌-◌, ◌++◌, ℕ, Bool, List, [], ◌∷◌, Option, Some, None, is_some, length, Result, Ok, Err, if◌then◌else◌}
use Rattle.std.specs.List.{list_all}
use Rattle.plain.specs.declared.refusal.Code.TheVariants.{R05, R13}
use Rattle.plain.specs.declared.fault.Fault.{Fault}
use Rattle.plain.specs.declared.fault.Fault.TheVariants.{Because, Memory}
use Rattle.expand.specs.declared.reason.Reason.{Reason}
use Rattle.expand.specs.declared.reason.Reason.TheVariants.{Coded}
use Rattle.expand.specs.declared.reason.Rejection.{Rejection}
use Rattle.instructions.specs.Instruction.{Instruction}
use Rattle.scopes.specs.Evaluate.{Values}
use Rattle.stages.specs.Naming.{Names, Known, stage_found}
use Rattle.stages.specs.Before.{declared_by, stage_names, outer_scope}
use Rattle.stages.specs.Due.{reason_after}
use Rattle.stages.specs.Table.{StagesValue, TableValue, stages_of, stages_in}

-- the number of the target among the stages of these names: of the one that is named by its number or its name, and none where there is no
-- such stage; where none is named that of the last, and 0 where there is no stage at all, as for a file without a FROM, for which R05 is due
-- (docker build, `--target`; numbers: own)
abbrev pub target_of : Names → Option (List ℕ) → Option ℕ
target_of names None = Some (length names - 1)
target_of names (Some text) = stage_found names text

-- a refusal with its line, if there is a reason, else what comes after
abbrev pub reported_at : ℕ → Option Reason → Option Rejection → Option Rejection
reported_at line None more = more
reported_at line (Some reason) more = Some (record { reason = reason; line = line })

-- the refusal of the first of some instructions that is refused after those before it: its line, with the least of its reasons
abbrev pub first_refusal : Known → Values → List Instruction → List Instruction → Option Rejection
first_refusal known args before [] = None
first_refusal known args before (i ∷ is) = reported_at i.line (reason_after known args before i.kind) (first_refusal known args (before ++ i ∷ []) is)

-- all of some instructions are ARGs
abbrev pub are_arguments : List Instruction → Bool
are_arguments is = list_all (λ i. is_some (declared_by i.kind)) is

-- the refusal of a file whose target is known: R05 at line 1 if it has no instruction other than ARG, and so no FROM; else that of its first
-- line that is refused
abbrev pub refusal_of : Known → Values → List Instruction → Option Rejection
refusal_of known args is = if are_arguments is then Some (record { reason = Coded R05; line = 1 }) else first_refusal known args [] is

-- a table, unless there is a refusal
abbrev pub unless_refused : {T : Type 0} → Option Rejection → T → Result T Rejection
unless_refused None table = Ok table
unless_refused (Some refusal) table = Err refusal

-- what the instructions of a file are resolved to where no target is asked for, with these images and build arguments: its stages, or its
-- refusal
unfoldable pub resolved_stages : Known → Values → List Instruction → Result StagesValue Rejection
resolved_stages known args is = unless_refused (refusal_of known args is) (stages_in known args is)

-- a file for a target that is one of its stages or isn't: R13, without a line, comes before all else
abbrev pub with_target : Known → Values → List Instruction → Option ℕ → Result TableValue Rejection
with_target known args is None = Err (record { reason = Coded R13; line = 0 })
with_target known args is (Some target) =
    unless_refused (refusal_of known args is) (record { outer = outer_scope args is; stages = stages_of known args is; target = target })

-- what the instructions of a file are resolved to, with these images, build arguments and target: the table of its stages; or its refusal,
-- which is the least by line, and on a line by number, as the law `the_least_refusal_is_reported` says (own)
unfoldable pub resolved : Known → Values → Option (List ℕ) → List Instruction → Result TableValue Rejection
resolved known args target is = with_target known args is (target_of (stage_names is) target)

-- what a call answers for a result: the result itself; want of memory says nothing of it
abbrev pub Returns : {X : Type 0} → Result X Rejection → Result X (Fault Rejection) → Type 0
Returns result (Ok x) = result ≡ Ok x
Returns result (Err (Because refusal)) = result ≡ Err refusal
Returns result (Err Memory) = Unit {0}
