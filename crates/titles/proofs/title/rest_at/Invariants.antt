use Rattle.std.proofs.Common.{◌≡◌, drop}
use Rattle.titles.specs.Titles.{rest_at}
use Rattle.titles.proofs.title.rest_at.Given as goal

abbrev pub invariant-loop-line : goal.invariant-loop-line
invariant-loop-line l = rest_at (drop l.line-index l.lines) l.number ≡ rest_at l.lines l.number
