use Rattle.std.proofs.Common.{◌≡◌, ◌++◌, drop, string_bytes}
use Rattle.std.specs.List.{flat_map}
use Rattle.packing.specs.Shown.{shown_byte}
use Rattle.packing.proofs.shown.shown_bytes.Given as goal

-- the bytes so far are shown
abbrev pub invariant-loop-byte : goal.invariant-loop-byte
invariant-loop-byte l = string_bytes l.shown ++ flat_map shown_byte (drop l.byte-index l.bytes) ≡ flat_map shown_byte l.bytes
