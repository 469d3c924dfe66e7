use Rattle.std.proofs.Common.{◌-◌}
use Rattle.plans.proofs.SortedSteps.{IsSought}
use Rattle.plans.proofs.sorted.place.Given as goal

abbrev pub decreases-seeking : goal.decreases-seeking
decreases-seeking g l = l.high - l.low

-- the names before are above the name, and those behind below
abbrev pub invariant-seeking : goal.invariant-seeking
invariant-seeking g l = IsSought l.name l.rows l.low l.high
