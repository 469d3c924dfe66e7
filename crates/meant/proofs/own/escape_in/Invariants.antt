use Rattle.std.proofs.Common.{◌≡◌, drop, map}
use Rattle.meant.specs.Own.{escape_in}
use Rattle.meant.proofs.own.escape_in.Given as goal

-- the lines that are left decide
abbrev pub invariant-loop-line : goal.invariant-loop-line
invariant-loop-line l = escape_in (map (λ line. line.now) (drop l.line-index l.lines)) ≡ escape_in (map (λ line. line.now) l.lines)
