use Rattle.std.proofs.Common.{◌≡◌, ◌++◌, drop, string_bytes}
use Rattle.dot.specs.Labels.{after_commas}
use Rattle.dot.proofs.labels.push_after_commas.Given as goal

-- what is added so far, and what is left
abbrev pub invariant-loop-line : goal.invariant-loop-line
invariant-loop-line l = string_bytes l.out ++ after_commas (drop l.line-index l.lines) ≡ string_bytes l.fn.out ++ after_commas l.lines
