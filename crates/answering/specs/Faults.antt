-- What faults of the layers below come to, and with which status the program ends (own).
use Rattle.std.specs.Prelude.{ℕ, Result, Ok, Err}
use Rattle.plain.specs.declared.fault.Fault.{Fault}
use Rattle.plain.specs.declared.fault.Fault.TheVariants as fault
use Rattle.counted.specs.declared.fault.Device.{Device as DeviceFailed}
use Rattle.answering.specs.declared.status.Status.{Status}
use Rattle.answering.specs.declared.status.Status.TheVariants.{Built, Failed, Refused}
use Rattle.answering.specs.declared.status.BuildFault.{BuildFault}
use Rattle.answering.specs.declared.status.BuildFault.TheVariants.{Memory, Device, Clash}

-- a fault of an edge
abbrev pub of_edge : Fault DeviceFailed → BuildFault
of_edge fault.Memory = Memory
of_edge (fault.Because device) = Device

-- the status that the program ends with, by what a call answered, whatever its faults are
abbrev pub exit_status : {F : Type 0} → Result Status F → ℕ
exit_status (Ok Built) = 0
exit_status (Ok Failed) = 1
exit_status (Ok Refused) = 2
exit_status (Err fault) = 3
