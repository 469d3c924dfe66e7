use Rattle.std.proofs.Common.{◌≡◌, false, drop}
use Rattle.warnings.specs.Escapes.{varies_after}
use Rattle.warnings.proofs.escapes.has_variable.Given as goal

-- none so far
abbrev pub invariant-loop-byte : goal.invariant-loop-byte
invariant-loop-byte l = varies_after l.escape l.acts l.opens (drop l.byte-index l.text) ≡ varies_after l.escape false false l.text
