-- What the functions that evaluate one line answer (own).
use Rattle.std.specs.Prelude.{◌≡◌, ℕ, Bool, true, false, Option, Some, None, Result, Ok, Err}
use Rattle.plain.specs.declared.fault.Fault.{Fault}
use Rattle.plain.specs.declared.fault.Fault.TheVariants.{Because, Memory}
use Rattle.plain.specs.declared.refusal.Code.{Code}
use Rattle.plain.specs.declared.refusal.Code.TheVariants.{R18}
use Rattle.expand.specs.declared.reason.Rejection.{Rejection}
use Rattle.expand.specs.declared.fault.Unexpanded.{Unexpanded}
use Rattle.expand.specs.declared.reason.Reason.{Reason}
use Rattle.expand.specs.declared.reason.Reason.TheVariants.{Coded, Required}
use Rattle.instructions.specs.Reason.{reason}

-- what evaluating a line answers for which these codes are due, and against whose texts this is: what is made of it if there is no reason
-- to refuse it, else the reason with the line; want of memory says nothing
abbrev pub EvaluatesTo : {X : Type 0} → X → (Code → Bool) → Option Unexpanded → ℕ → Result X (Fault Rejection) → Type 0
EvaluatesTo made codes fault line (Ok x) = (x ≡ made) × (reason codes fault ≡ None)
EvaluatesTo made codes fault line (Err (Because rejection)) = (rejection.line ≡ line) × (reason codes fault ≡ Some rejection.reason)
EvaluatesTo made codes fault line (Err Memory) = Unit {0}

-- the refusal of a line by which more images are named than one build may name, as a fault
abbrev pub many_refused : ℕ → Fault Rejection
many_refused line = Because (record { reason = Coded R18; line = line })

-- why a line is refused that is refused for this, by which more images than one build may name are named or aren't: that comes before a
-- required variable, and after each code that may be due for an instruction
abbrev pub reason_with : Bool → Reason → Reason
reason_with false reason = reason
reason_with true (Coded code) = Coded code
reason_with true (Required text) = Coded R18

-- why a line is refused that is refused for this or isn't
abbrev pub with_many : Bool → Option Reason → Option Reason
with_many many (Some reason) = Some (reason_with many reason)
with_many false None = None
with_many true None = Some (Coded R18)

-- the fault of a line by which more images than one build may name are named or aren't
abbrev pub fault_with : Bool → Fault Rejection → Fault Rejection
fault_with many (Because rejection) = Because (record { reason = reason_with many rejection.reason; line = rejection.line })
fault_with many Memory = Memory
