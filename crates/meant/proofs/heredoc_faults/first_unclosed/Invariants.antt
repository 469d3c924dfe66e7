use Rattle.std.proofs.Common.{◌≡◌, drop, map}
use Rattle.std.specs.List.{find}
use Rattle.meant.specs.HeredocFaults.{is_unclosed}
use Rattle.meant.proofs.heredoc_faults.first_unclosed.Given as goal

-- the marks that are left decide
abbrev pub invariant-loop-mark : goal.invariant-loop-mark
invariant-loop-mark l =
    find (is_unclosed (map (λ line. line.now) l.below)) (map (λ mark. mark.now) (drop l.mark-index l.marks))
    ≡ find (is_unclosed (map (λ line. line.now) l.below)) (map (λ mark. mark.now) l.marks)
