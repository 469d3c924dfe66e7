use Rattle.std.proofs.Common.{◌≡◌, drop}
use Rattle.llb.specs.Places.{with_lines}
use Rattle.llb.proofs.places.with_lines.Given as goal

abbrev pub invariant-loop-line : goal.invariant-loop-line
invariant-loop-line l = with_lines (drop l.line-index l.more) l.lines ≡ with_lines l.more l.fn.lines
