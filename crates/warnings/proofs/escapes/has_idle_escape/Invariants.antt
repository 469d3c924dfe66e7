use Rattle.std.proofs.Common.{◌≡◌, false, drop}
use Rattle.warnings.specs.Escapes.{is_idle_after}
use Rattle.warnings.proofs.escapes.has_idle_escape.Given as goal

-- none so far
abbrev pub invariant-loop-byte : goal.invariant-loop-byte
invariant-loop-byte l = is_idle_after l.escape l.acts (drop l.byte-index l.body) ≡ is_idle_after l.escape false l.body
