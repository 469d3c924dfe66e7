use Rattle.std.proofs.Common.{◌≡◌, ◌+◌, drop, map}
use denote.Shadow.{shadow}
use denote.Text.{Utf8}
use Rattle.checks.specs.Mark.{later_spot}
use Rattle.checks.proofs.mark.later_spot.Given as goal

-- the lines that are left decide
abbrev pub invariant-loop-line : goal.invariant-loop-line
invariant-loop-line l = record {
  text : shadow (Utf8 l.front);
  counted : l.above ≡ l.line-index + 1;
  left : later_spot l.code l.subject l.above l.front (map (λ line. line.now) (drop l.line-index l.later))
      ≡ later_spot l.code l.subject 1 l.fn.front (map (λ line. line.now) l.later);
}
