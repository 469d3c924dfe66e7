use Rattle.std.proofs.Common.{◌≡◌, ℕ, ◌-◌, ◌<◌, ◌≤◌, false, ◌&&◌, length}
use Rattle.cachemounts.specs.Holds.{can_take}
use Rattle.plans.specs.Plan.{uses_in}
use Rattle.board.specs.PrivateNumbers.{has}
use Rattle.board.specs.PrivateFrontier.{line_in, comes_before, IsThinned}
use Rattle.board.proofs.frontier.Frontier.least.Given as goal

abbrev pub invariant-loop-number : goal.invariant-loop-number
invariant-loop-number l = record {
  thinned : IsThinned l.graph.places l.initial.self l.self;
  within : l.from ≤ length l.self.available;
  passed : (k : ℕ) → k < l.from → (has l.initial.self.available k && (can_take l.caches.holds (uses_in l.graph.vertices k) && comes_before (line_in l.graph.places k) l.initial.self.failed)) ≡ false;
}

abbrev pub decreases-loop-number : goal.decreases-loop-number
decreases-loop-number l = length l.self.available - l.from
