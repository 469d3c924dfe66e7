use Rattle.std.proofs.Common.{◌≡◌, ℕ, ◌<◌, true}
use Rattle.cachemounts.specs.Holds.{is_holder}
use Rattle.cachemounts.proofs.holds.free_number.Given as goal

abbrev pub invariant-loop-number : goal.invariant-loop-number
invariant-loop-number l = (k : ℕ) → k < l.number → is_holder k l.holds ≡ true
