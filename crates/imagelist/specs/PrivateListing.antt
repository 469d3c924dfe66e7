-- The fault of a bundle that isn't read.
use Rattle.plain.specs.declared.fault.Fault.{Fault}
use Rattle.plain.specs.declared.fault.Fault.TheVariants.{Because, Memory}
use Rattle.plain.specs.declared.refusal.Refusal.{Refusal}
use Rattle.expand.specs.Reasons.{rejection_of}
use Rattle.expand.specs.declared.reason.Rejection.{Rejection}

-- the fault of what is read before any text is expanded
abbrev pub rejection_fault : Fault Refusal → Fault Rejection
rejection_fault (Because refusal) = Because (rejection_of refusal)
rejection_fault Memory = Memory
