use Rattle.std.proofs.Common.{◌≡◌, drop}
use Rattle.exported.specs.Names.{has_host_byte}
use Rattle.exported.proofs.names.has_host_byte.Given as goal

-- none so far, and no slash
abbrev pub invariant-loop-byte : goal.invariant-loop-byte
invariant-loop-byte l = has_host_byte (drop l.byte-index l.name) ≡ has_host_byte l.name
