-- What a bundle asks for, beside its titles.
use Rattle.std.specs.Prelude.{ℕ, List, Option, Result, Ok, Err}
use Rattle.plain.specs.declared.fault.Fault.{Fault}
use Rattle.expand.specs.declared.reason.Rejection.{Rejection}
use Rattle.build.specs.declared.asking.Asked.{Asked}

-- what is asked for, without titles
abbrev pub asked_of : Result (Asked × List (Option (List ℕ))) (Fault Rejection) → Result Asked (Fault Rejection)
asked_of (Ok titled) = Ok titled.0
asked_of (Err fault) = Err fault
