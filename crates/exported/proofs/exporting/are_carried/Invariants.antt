use Rattle.std.proofs.Common.{◌≡◌, drop, false}
use Rattle.exported.specs.Exporting.{are_carried}
use Rattle.exported.proofs.exporting.are_carried.Given as goal

-- what the bytes left say after those so far is what all say
abbrev pub invariant-loop-byte : goal.invariant-loop-byte
invariant-loop-byte l = are_carried l.escaped (drop l.byte-index l.bytes) ≡ are_carried false l.bytes
