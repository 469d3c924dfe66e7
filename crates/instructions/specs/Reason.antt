-- Why a line is refused whose texts are expanded: the least code that is due, and after all of them R21, with a text (own).
use Rattle.std.specs.Prelude.{◌≡◌, ◌≤◌, ℕ, Bool, true, false, List, Option, Some, None, Result, Ok, Err}
use Rattle.plain.specs.declared.refusal.Code.{Code}
use Rattle.plain.specs.declared.fault.Fault.{Fault}
use Rattle.plain.specs.declared.fault.Fault.TheVariants.{Because, Memory}
use Rattle.expand.specs.Reasons.{reason_number}
use Rattle.expand.specs.declared.fault.Unexpanded.{Unexpanded}
use Rattle.expand.specs.declared.fault.Unexpanded.TheVariants.{TooLong, Required as required}
use Rattle.expand.specs.declared.reason.Reason.{Reason}
use Rattle.expand.specs.declared.reason.Reason.TheVariants.{Coded, Required}
use Rattle.instructions.specs.Least.{least}

-- one of a line's texts is too long: R18 is due for it
abbrev pub is_long : Option Unexpanded → Bool
is_long None = false
is_long (Some TooLong) = true
is_long (Some (required text)) = false

-- the text that a line is refused with by R21, if it is
abbrev pub required_in : Option Unexpanded → Option (List ℕ)
required_in None = None
required_in (Some TooLong) = None
required_in (Some (required text)) = Some text

-- the reason that is reported: the least code that is due, else R21 with its text
abbrev pub reason_by : Option Code → Option (List ℕ) → Option Reason
reason_by None None = None
reason_by None (Some text) = Some (Required text)
reason_by (Some code) text = Some (Coded code)

-- the reason to refuse a line for which these codes are due, and against whose texts this is
abbrev pub reason : (Code → Bool) → Option Unexpanded → Option Reason
reason due fault = reason_by (least due) (required_in fault)

-- there is this reason to refuse the line
abbrev pub IsReason : (Code → Bool) → Option Unexpanded → Reason → Type 0
IsReason due fault (Coded code) = due code ≡ true
IsReason due fault (Required text) = required_in fault ≡ Some text

-- and no lesser one: what the reason that is reported is, as the law `the_least_reason_is_reported` says
abbrev pub IsLeastReason : (Code → Bool) → Option Unexpanded → Reason → Type 0
IsLeastReason due fault found = IsReason due fault found × ((other : Reason) → IsReason due fault other → reason_number found ≤ reason_number other)

-- what evaluating a line answers, of which `made` can be made, for which these codes are due and against whose texts this is: what
-- is made if there is no reason to refuse it, else the reason; want of memory says nothing of the line
abbrev pub Evaluates : {X : Type 0} → Option X → (Code → Bool) → Option Unexpanded → Result X (Fault Reason) → Type 0
Evaluates made due fault (Ok x) = (made ≡ Some x) × (reason due fault ≡ None)
Evaluates made due fault (Err (Because why)) = reason due fault ≡ Some why
Evaluates made due fault (Err Memory) = Unit {0}
