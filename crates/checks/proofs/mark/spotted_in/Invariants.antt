use Rattle.std.proofs.Common.{◌≡◌, drop, map}
use Rattle.checks.specs.Mark.{spotted_in}
use Rattle.checks.proofs.mark.spotted_in.Given as goal

-- the lines that are left decide
abbrev pub invariant-loop-line : goal.invariant-loop-line
invariant-loop-line l = record {
  counted : l.above ≡ l.line-index;
  left : spotted_in l.above l.word (map (λ line. line.now) (drop l.line-index l.own)) ≡ spotted_in 0 l.word (map (λ line. line.now) l.own);
}
