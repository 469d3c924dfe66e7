use Rattle.std.proofs.Common.{◌≡◌, ◌++◌, drop, map}
use Rattle.meant.specs.Own.{own_lines}
use Rattle.meant.proofs.own.own_lines.Given as goal

-- the lines so far with those of the ones that are left are all
abbrev pub invariant-loop-line : goal.invariant-loop-line
invariant-loop-line l =
    map (λ line. line.now) l.own.items ++ own_lines l.escape (map (λ line. line.now) (drop l.line-index l.lines)) ≡ own_lines l.escape (map (λ line. line.now) l.lines)
