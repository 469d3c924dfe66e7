use Rattle.std.proofs.Common.{drop, ◌≡◌}
use Rattle.definition.specs.Lines.{ascend}
use Rattle.definition.proofs.lines.ascend.Given as goal

abbrev pub invariant-loop-line : goal.invariant-loop-line
invariant-loop-line l = ascend l.last (drop l.line-index l.lines) ≡ ascend l.low l.lines
