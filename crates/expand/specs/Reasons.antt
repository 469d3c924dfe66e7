-- Why a line is refused whose texts are expanded: by a code, or by R21 with a text (own).
use Rattle.std.specs.Prelude.{ℕ}
use Rattle.plain.specs.Codes.{number_of}
use Rattle.plain.specs.declared.refusal.Code.TheVariants.{R18}
use Rattle.plain.specs.declared.refusal.Refusal.{Refusal}
use Rattle.expand.specs.declared.fault.Unexpanded.{Unexpanded}
use Rattle.expand.specs.declared.fault.Unexpanded.TheVariants.{TooLong, Required as required}
use Rattle.expand.specs.declared.reason.Reason.{Reason}
use Rattle.expand.specs.declared.reason.Reason.TheVariants.{Coded, Required}
use Rattle.expand.specs.declared.reason.Rejection.{Rejection}

-- why a line is refused one of whose texts has no value
abbrev pub reason_of : Unexpanded → Reason
reason_of TooLong = Coded R18
reason_of (required text) = Required text

-- the number of a reason: that of its code, and 21 if a variable is required (own)
abbrev pub reason_number : Reason → ℕ
reason_number (Coded code) = number_of code
reason_number (Required text) = 21

-- a refusal by a code alone
abbrev pub rejection_of : Refusal → Rejection
rejection_of refusal = record { reason = Coded refusal.code; line = refusal.line }
