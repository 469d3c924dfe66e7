-- Why what is told of a bundle isn't whole, what the faults of the layers below come to, and what is said of it (own).
use Rattle.std.specs.Prelude.{◌≡◌, ℕ, List, Result, Ok, Err, codes}
use Rattle.plain.specs.declared.fault.Fault.{Fault}
use Rattle.plain.specs.declared.fault.Fault.TheVariants as fault
use Rattle.counted.specs.declared.fault.Device.{Device as DeviceFailed}
use Rattle.answering.specs.declared.status.Status.{Status}
use Rattle.answering.specs.declared.status.BuildFault.{BuildFault}
use Rattle.answering.specs.declared.status.BuildFault.TheVariants as build
use Rattle.build.specs.Ends.{Devices}
use Rattle.program.specs.declared.fault.TellFault.{TellFault}
use Rattle.program.specs.declared.fault.TellFault.TheVariants.{Memory, Device, Clash, Unspeakable}

-- a fault of a build, or of the drawing of a graph
abbrev pub of_build : BuildFault → TellFault
of_build build.Memory = Memory
of_build build.Device = Device
of_build build.Clash = Clash

-- a fault of an edge
abbrev pub of_edge : Fault DeviceFailed → TellFault
of_edge fault.Memory = Memory
of_edge (fault.Because device) = Device

-- how a build, or the drawing of a graph, ended
abbrev pub as_told : Result Status BuildFault → Result Status TellFault
as_told (Ok status) = Ok status
as_told (Err fault) = Err (of_build fault)

-- a call ends as a build or the drawing of a graph ends
abbrev pub EndsAs : (Devices → Devices → Result Status BuildFault → Type 0) → Devices → Devices → Result Status TellFault → Type 0
EndsAs EndsSo old new ended = (own : Result Status BuildFault) × EndsSo old new own × (ended ≡ as_told own)

-- the text that is said of a fault
abbrev pub fault_text : TellFault → List ℕ
fault_text Memory = codes "out of memory"
fault_text Device = codes "device failed"
fault_text Clash = codes "address clash"
fault_text Unspeakable = codes "a path that the ignore file leaves out isn't printable ASCII"
