use Rattle.std.proofs.Common.{◌≡◌, drop}
use Rattle.exported.specs.Names.{has_byte}
use Rattle.exported.proofs.names.has_byte.Given as goal

-- none so far
abbrev pub invariant-loop-byte : goal.invariant-loop-byte
invariant-loop-byte l = has_byte l.wanted (drop l.byte-index l.bytes) ≡ has_byte l.wanted l.bytes
