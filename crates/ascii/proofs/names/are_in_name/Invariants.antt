use Rattle.std.proofs.Common.{◌≡◌, drop}
use Rattle.ascii.specs.Names.{are_in_name}
use Rattle.ascii.proofs.names.are_in_name.Given as goal

abbrev pub invariant-loop-byte : goal.invariant-loop-byte
invariant-loop-byte l = are_in_name (drop l.byte-index l.bytes) ≡ are_in_name l.bytes
