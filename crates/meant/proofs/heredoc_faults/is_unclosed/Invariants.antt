use Rattle.std.proofs.Common.{◌≡◌, drop, map}
use Rattle.meant.specs.HeredocFaults.{is_unclosed}
use Rattle.meant.proofs.heredoc_faults.is_unclosed.Given as goal

-- the lines that are left decide
abbrev pub invariant-loop-line : goal.invariant-loop-line
invariant-loop-line l = is_unclosed (map (λ line. line.now) (drop l.line-index l.below)) l.mark ≡ is_unclosed (map (λ line. line.now) l.below) l.mark
