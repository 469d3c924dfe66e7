use Rattle.std.proofs.Common.{◌≡◌, ◌==◌, drop}
use Rattle.std.specs.List.{list_any}
use Rattle.dot.proofs.stages.has_bracket.Given as goal

-- none so far
abbrev pub invariant-loop-byte : goal.invariant-loop-byte
invariant-loop-byte l = list_any (λ c. c == 93) (drop l.byte-index l.bytes) ≡ list_any (λ c. c == 93) l.bytes
