use Rattle.std.proofs.Common.{◌≡◌, ◌-◌, ◌++◌, None, length, replicate}
use Rattle.titles.proofs.titling.with_title.Given as goal

abbrev pub invariant-loop-titles : goal.invariant-loop-titles
invariant-loop-titles l = l.titles ++ replicate (l.line - length l.titles) None ≡ l.fn.titles ++ replicate (l.line - length l.fn.titles) None

abbrev pub decreases-loop-titles : goal.decreases-loop-titles
decreases-loop-titles l = l.line - length l.titles
