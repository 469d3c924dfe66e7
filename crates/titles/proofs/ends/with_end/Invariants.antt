use Rattle.std.proofs.Common.{◌≡◌, ◌-◌, ◌++◌, length, replicate}
use Rattle.titles.proofs.ends.with_end.Given as goal

abbrev pub invariant-loop-ends : goal.invariant-loop-ends
invariant-loop-ends l = l.ends ++ replicate (l.line - length l.ends) 0 ≡ l.fn.ends ++ replicate (l.line - length l.fn.ends) 0

abbrev pub decreases-loop-ends : goal.decreases-loop-ends
decreases-loop-ends l = l.line - length l.ends
