use Rattle.std.proofs.Common.{◌≡◌, ◌<◌, ℕ}
use Rattle.std.specs.Prelude.{slice_index_or}
use Rattle.sites.specs.Seats.{SeatValue, IsSeatOf}
use Rattle.sites.proofs.held.Held.agree_all.Given as goal

abbrev pub invariant-loop-at : goal.invariant-loop-at
invariant-loop-at g l =
    (l.self ≡ l.fn.self) × (l.seats ≡ l.fn.seats)
    × ((k : ℕ) (default : SeatValue) → k < l.at → IsSeatOf g.J.Case.before l.fn.self.run (slice_index_or l.fn.seats k default))
