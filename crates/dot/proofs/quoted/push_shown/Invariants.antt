use Rattle.std.proofs.Common.{◌≡◌, ◌++◌, drop, string_bytes}
use Rattle.dot.specs.Quoted.{shown}
use Rattle.dot.proofs.quoted.push_shown.Given as goal

-- what is added so far, and what is left
abbrev pub invariant-loop-byte : goal.invariant-loop-byte
invariant-loop-byte l = string_bytes l.out ++ shown (drop l.byte-index l.byte-items) ≡ string_bytes l.fn.out ++ shown l.text
