use Rattle.std.proofs.Common.{take}
use Rattle.lines.specs.Faults.{IsLeastIfAny}
use Rattle.lines.proofs.faults.least.Given as goal

abbrev pub invariant-loop-fault : goal.invariant-loop-fault
invariant-loop-fault l = IsLeastIfAny (take l.fault-index l.faults) l.found
