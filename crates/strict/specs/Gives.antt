-- What a reader of JSON tells of a value, in both directions (own).
use Rattle.std.specs.Prelude.{◌≡◌, Option, Some, None, Result, Ok, Err}
use Rattle.plain.specs.declared.fault.Fault.{Fault}
use Rattle.plain.specs.declared.fault.Fault.TheVariants.{Because, Memory}
use Rattle.strict.specs.declared.fault.NotRead.{NotRead}

-- what a fault tells of a value: that there is none; want of memory tells nothing
abbrev pub TellsFault : {A : Type 0} → Fault NotRead → Option A → Type 0
TellsFault (Because fault) reading = reading ≡ None
TellsFault Memory reading = Unit {0}

-- a reader answers the value that the definition gives, and a fault where it gives none
abbrev pub Gives : {A : Type 0} → Result A (Fault NotRead) → Option A → Type 0
Gives (Ok x) reading = reading ≡ Some x
Gives (Err e) reading = TellsFault e reading
