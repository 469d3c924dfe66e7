-- Which code is told of a line that several refuse: the least of those that are due (own).
use Rattle.std.specs.Prelude.{◌≡◌, ◌≤◌, Bool, true, List, [], ◌∷◌, Option, Some, None, Result, Ok, Err, if◌then◌else◌}
use Rattle.plain.specs.Codes.{number_of}
use Rattle.plain.specs.declared.refusal.Code.{Code}
use Rattle.plain.specs.declared.refusal.Code.TheVariants.{R01, R02, R03, R04, R05, R06, R07, R08, R09, R10, R11, R12, R13, R14, R15, R16, R17, R18, R19, R20}
use Rattle.plain.specs.declared.fault.Fault.{Fault}
use Rattle.plain.specs.declared.fault.Fault.TheVariants.{Because, Memory}

-- the codes in ascending order
abbrev pub all_codes : List Code
all_codes = R01 ∷ R02 ∷ R03 ∷ R04 ∷ R05 ∷ R06 ∷ R07 ∷ R08 ∷ R09 ∷ R10 ∷ R11 ∷ R12 ∷ R13 ∷ R14 ∷ R15 ∷ R16 ∷ R17 ∷ R18 ∷ R19 ∷ R20 ∷ []

-- the first code of a list that is due
abbrev pub first_due : (Code → Bool) → List Code → Option Code
first_due due [] = None
first_due due (c ∷ cs) = if due c then Some c else first_due due cs

-- the least code that is due
abbrev pub least : (Code → Bool) → Option Code
least due = first_due due all_codes

-- the code is due, and no lesser one is: what the least code is, as the law `the_least_code_is_told` says
abbrev pub IsLeast : (Code → Bool) → Code → Type 0
IsLeast due c = (due c ≡ true) × ((d : Code) → due d ≡ true → number_of c ≤ number_of d)

-- what reading a text answers, of which `made` can be made and for which these codes are due: what is made where no code
-- is due, else the least code; want of memory says nothing of the text
abbrev pub Meets : {X : Type 0} → Option X → (Code → Bool) → Result X (Fault Code) → Type 0
Meets made due (Ok x) = (made ≡ Some x) × (least due ≡ None)
Meets made due (Err (Because c)) = least due ≡ Some c
Meets made due (Err Memory) = Unit {0}
