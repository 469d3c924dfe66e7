use Rattle.std.proofs.Common.{◌≡◌, ℕ, ◌<◌, true}
use Rattle.std.specs.List.{list_any}
use Rattle.cachemounts.specs.Holds.{holds_slot}
use Rattle.cachemounts.proofs.holds.lowest_free.Given as goal

abbrev pub invariant-loop-slot : goal.invariant-loop-slot
invariant-loop-slot l = (k : ℕ) → k < l.slot → list_any (holds_slot l.id k) l.holds ≡ true
