use Rattle.std.proofs.Common.{◌≡◌, drop}
use Rattle.std.specs.List.{list_any}
use Rattle.exported.specs.Patterns.{is_sign}
use Rattle.exported.proofs.patterns.any_sign.Given as goal

-- none so far
abbrev pub invariant-loop-byte : goal.invariant-loop-byte
invariant-loop-byte l = list_any is_sign (drop l.byte-index l.bytes) ≡ list_any is_sign l.bytes
