-- What the code has of a file while it goes past refused instructions.
use Rattle.std.specs.Prelude.{◌≡◌, ◌++◌, ℕ, Bool, List, [], ◌∷◌, Option, Some, None, Result, Ok, Err}
use Rattle.plain.specs.declared.fault.Fault.{Fault}
use Rattle.plain.specs.declared.fault.Fault.TheVariants.{Because, Memory}
use Rattle.plain.specs.declared.refusal.Code.{Code}
use Rattle.expand.specs.Value.{Parts}
use Rattle.expand.specs.declared.fault.Unexpanded.{Unexpanded}
use Rattle.expand.specs.declared.reason.Reason.{Reason}
use Rattle.expand.specs.declared.reason.Rejection.{Rejection}
use Rattle.instructions.specs.Reason.{reason}
use Rattle.instructions.specs.declared.instruction.Argument.{Argument}
use Rattle.scopes.specs.Scope.{value_in, kept}
use Rattle.scopes.specs.Evaluate.{Values, arg_line}
use Rattle.scopes.specs.declared.declaration.Declaration.{Declaration}
use Rattle.stages.specs.Naming.{Names}

-- the outer scope after an instruction before the first FROM
abbrev pub outer_with : Values → List Declaration → Option (List Argument) → List Declaration
outer_with args outer None = outer
outer_with args outer (Some arguments) = kept (outer ++ arg_line (value_in outer) args (λ name. None) arguments)

-- the outer scope after an instruction other than FROM, after stages of these names
abbrev pub outer_other : Values → List Declaration → Names → Option (List Argument) → List Declaration
outer_other args outer [] declared = outer_with args outer declared
outer_other args outer (name ∷ names) declared = outer

-- the outer scope after an instruction, which begins this stage or none
abbrev pub outer_by : Values → List Declaration → Names → Option (List Argument) → Option (Parts × Option (List ℕ)) → List Declaration
outer_by args outer names declared (Some stage) = outer
outer_by args outer names declared None = outer_other args outer names declared

-- the names of the stages after an instruction, which begins this stage or none
abbrev pub names_by : Names → Option (Parts × Option (List ℕ)) → Names
names_by names (Some stage) = names ++ stage.1 ∷ []
names_by names None = names

-- a refusal with its line, if there is a reason
abbrev pub reported : ℕ → Option Reason → List Rejection
reported line None = []
reported line (Some reason) = record { reason = reason; line = line } ∷ []

-- the reason for which a call made nothing, and none if it did; want of memory is handed on
abbrev pub ReasonReported : {X : Type 0} → Result X (Fault Reason) → Option Reason → Type 0
ReasonReported (Ok made) found = found ≡ None
ReasonReported (Err (Because reason)) found = found ≡ Some reason
ReasonReported (Err Memory) found = ⊥

-- what judging an instruction answers, for which these codes are due and against whose texts this is: the least reason to refuse it, and the
-- scope as it was; or none, and the scope that is made
abbrev pub Judges : (Code → Bool) → Option Unexpanded → List Declaration → List Declaration → List Declaration → Option Reason → Type 0
Judges due fault made old new None = (reason due fault ≡ None) × (new ≡ made)
Judges due fault made old new (Some why) = (reason due fault ≡ Some why) × (new ≡ old)
