-- The fault of a line: why it is refused, with its line.
use Rattle.std.specs.Prelude.{◌≡◌, ℕ, Bool, List, Option, Some, None, Ok, Err, refl, if◌then◌else◌}
use Rattle.std.proofs.Common.{sym, ◌∙◌, ap, subst}
use Rattle.plain.specs.declared.fault.Fault.{Fault}
use Rattle.plain.specs.declared.fault.Fault.TheVariants.{Because, Memory}
use Rattle.plain.specs.declared.refusal.Code.{Code}
use Rattle.plain.specs.declared.refusal.Code.TheVariants.{R18}
use Rattle.expand.specs.Reasons.{reason_of}
use Rattle.expand.specs.declared.fault.Unexpanded.{Unexpanded}
use Rattle.expand.specs.declared.fault.Unexpanded.TheVariants.{TooLong, Required}
use Rattle.expand.specs.declared.reason.Reason.{Reason}
use Rattle.expand.specs.declared.reason.Rejection.{Rejection}
use Rattle.instructions.specs.Least.{least, Meets}
use Rattle.instructions.specs.Reason.{reason, reason_by, required_in, is_long, Evaluates}
use Rattle.scopes.specs.Evaluate.{Says, Declares}
use Rattle.scopes.specs.declared.declaration.Declaration.{Declaration}
use Rattle.evaluation.specs.PrivateInstruction.{with_line, text_fault, code_fault}
use Rattle.evaluation.specs.PrivateRefusals.{EvaluatesTo}

-- what is reported of a line is why it is refused
abbrev pub Reports : Option Reason → Fault Reason → Type 0
Reports why fault = (reported : Reason) → fault ≡ Because reported → why ≡ Some reported

same_reason : (this that : Reason) → Because this ≡ Because that → this ≡ that
same_reason this that e = cc

no_reason : (reported : Reason) → Memory ≡ Because reported → ⊥
no_reason reported e = cc

pub line_reported : {X : Type 0} (made : X) (codes : Code → Bool) (against : Option Unexpanded) (line : ℕ) (fault : Fault Reason) (out : Fault Rejection) → out ≡ with_line fault line
    → Reports (reason codes against) fault → EvaluatesTo made codes against line (Err out)
line_reported made codes against line (Because reported) out is h = subst (λ (o : Fault Rejection). EvaluatesTo made codes against line (Err o)) (sym is) (refl, h reported refl)
line_reported made codes against line Memory out is h = subst (λ (o : Fault Rejection). EvaluatesTo made codes against line (Err o)) (sym is) tt

-- a line of which R18 is due if one of its texts is too long, and nothing else
long_by : (why : Unexpanded) → reason_by (if is_long (Some why) then Some R18 else None) (required_in (Some why)) ≡ Some (reason_of why)
long_by TooLong = refl
long_by (Required text) = refl

long_of : (against : Option Unexpanded) (why : Unexpanded) → against ≡ Some why → reason_by (if is_long against then Some R18 else None) (required_in against) ≡ Some (reason_of why)
long_of against why h = ap (λ (a : Option Unexpanded). reason_by (if is_long a then Some R18 else None) (required_in a)) h ∙ long_by why

pub long_said : {X : Type 0} (made : X) (against : Option Unexpanded) (fault : Fault Unexpanded) (out : Fault Reason) → out ≡ text_fault fault → Says made against (Err fault)
    → Reports (reason_by (if is_long against then Some R18 else None) (required_in against)) out
long_said made against (Because why) out is h reported e = long_of against why h ∙ ap Some (same_reason (reason_of why) reported (sym is ∙ e))
long_said made against Memory out is h reported e = absurd (no_reason reported (sym is ∙ e))

pub long_reported : (old line new : List Declaration) (against : Option Unexpanded) (fault : Fault Unexpanded) (out : Fault Reason) → out ≡ text_fault fault
    → Declares old line against new (Err fault) → Reports (reason_by (if is_long against then Some R18 else None) (required_in against)) out
long_reported old line new against (Because why) out is h = long_said line against (Because why) out is h.1
long_reported old line new against Memory out is h = long_said line against Memory out is tt

-- what a line leaves that nothing is against, `made` being made of it
pub long_none : {X Y : Type 0} (made : X → Y) (found said : X) (after : Y) (against : Option Unexpanded) → (found ≡ said) × (against ≡ None) → after ≡ made found
    → (after ≡ made said) × (reason_by (if is_long against then Some R18 else None) (required_in against) ≡ None)
long_none made found said after against h is = (is ∙ ap made h.0, ap (λ (a : Option Unexpanded). reason_by (if is_long a then Some R18 else None) (required_in a)) h.1)

-- a line that expands nothing
pub code_reported : {X : Type 0} (made : X) (codes : Code → Bool) (fault : Fault Code) (out : Fault Reason) → out ≡ code_fault fault
    → Meets (Some made) codes (Err fault) → Evaluates (Some made) codes None (Err out)
code_reported made codes (Because code) out is h =
    subst (λ (o : Fault Reason). Evaluates (Some made) codes None (Err o)) (sym is) (ap (λ (c : Option Code). reason_by c None) h)
code_reported made codes Memory out is h = subst (λ (o : Fault Reason). Evaluates (Some made) codes None (Err o)) (sym is) tt

pub code_well : {X : Type 0} (made x : X) (codes : Code → Bool) → (Some made ≡ Some x) × (least codes ≡ None) → Evaluates (Some made) codes None (Ok x)
code_well made x codes h = (h.0, ap (λ (c : Option Code). reason_by c None) h.1)

pub reason_met : {X : Type 0} (made : Option X) (codes : Code → Bool) (against : Option Unexpanded) (fault : Fault Reason) → Evaluates made codes against (Err fault)
    → Reports (reason codes against) fault
reason_met made codes against (Because this) h reported e = h ∙ ap Some (same_reason this reported e)
reason_met made codes against Memory h reported e = absurd (no_reason reported e)
