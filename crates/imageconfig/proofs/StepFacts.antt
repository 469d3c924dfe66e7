-- What is reported of a line, by the code that is found and what is against its texts.
use Rattle.std.proofs.Common.{◌≡◌, Bool, false, Option, Some, None, refl, ap, sym, subst, ◌∙◌}
use Rattle.std.specs.Prelude.{option_map, Result, Ok, Err, if◌then◌else◌}
use Rattle.std.specs.Result.{IsErrAnd}
use Rattle.plain.specs.declared.fault.Fault.{Fault}
use Rattle.plain.specs.declared.fault.Fault.TheVariants.{Because, Memory}
use Rattle.plain.specs.declared.refusal.Code.{Code}
use Rattle.plain.specs.declared.refusal.Code.TheVariants.{R18}
use Rattle.expand.specs.Reasons.{reason_of}
use Rattle.expand.specs.declared.fault.Unexpanded.{Unexpanded}
use Rattle.expand.specs.declared.fault.Unexpanded.TheVariants.{TooLong, Required}
use Rattle.expand.specs.declared.reason.Reason.{Reason}
use Rattle.instructions.specs.Reason.{is_long, required_in, reason_by, reason, Evaluates}
use Rattle.instructions.specs.declared.instruction.InstructionKind.{InstructionKind}
use Rattle.scopes.specs.Evaluate.{Values}
use Rattle.imageconfig.specs.PrivateLines.{IsChanged}
use Rattle.imageconfig.specs.Steps.{due, fault}
use Rattle.imageconfig.specs.declared.config.Config.{Config}

-- if no lesser code is due, what is against the texts is reported
pub by_texts : (fault : Option Unexpanded) → reason_by (if is_long fault then Some R18 else None) (required_in fault) ≡ option_map reason_of fault
by_texts None = refl
by_texts (Some TooLong) = refl
by_texts (Some (Required text)) = refl

-- the same after a code that isn't due
after_code : (code : Code) (due : Bool) (fault : Option Unexpanded) → due ≡ false → reason_by (if due then Some code else if is_long fault then Some R18 else None) (required_in fault) ≡ option_map reason_of fault
after_code code due fault e = rw e (by_texts fault)

-- a line that nothing is against
pub no_reason : (code : Code) (due : Bool) (fault : Option Unexpanded) → due ≡ false → fault ≡ None → reason_by (if due then Some code else if is_long fault then Some R18 else None) (required_in fault) ≡ None
no_reason code due fault e f = after_code code due fault e ∙ ap (option_map reason_of) f

-- what is reported of a line is reported of the change that it makes

refused_by : {X : Type 0} (old : Config) (before : Values) (kind : InstructionKind) (made : Option X) (codes : Code → Bool) (texts : Option Unexpanded) (why : Fault Reason) → Evaluates made codes texts (Err why)
    → reason codes texts ≡ reason (due before old kind) (fault before kind) → IsChanged old before kind old (Err why)
refused_by old before kind made codes texts (Because why) h e = (refl, sym e ∙ h)
refused_by old before kind made codes texts Memory h e = refl

pub refused : {X : Type 0} (old : Config) (before : Values) (kind : InstructionKind) (made : Option X) (codes : Code → Bool) (texts : Option Unexpanded) (why : Fault Reason) (answer : Result (Unit {0}) (Fault Reason))
    → IsErrAnd answer (λ e. e ≡ why) → Evaluates made codes texts (Err why) → reason codes texts ≡ reason (due before old kind) (fault before kind) → IsChanged old before kind old answer
refused old before kind made codes texts why (Ok u) same h e = absurd same
refused old before kind made codes texts why (Err found) same h e =
    subst (λ (f : Fault Reason). IsChanged old before kind old (Err f)) (sym same) (refused_by old before kind made codes texts why h e)
