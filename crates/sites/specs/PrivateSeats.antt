-- Seats beside a board (own).
use Rattle.std.specs.Prelude.{◌≡◌, ℕ, ◌<◌, ◌≤◌, List, [], ◌++◌, length, slice_index_or}
use Rattle.board.specs.Play.{Run}
use Rattle.board.specs.declared.event.Happened.{Happened}
use Rattle.sites.specs.Seats.{SeatValue, IsSeatOf, tally_of}

-- each of these seats says what the board has of its worker (own)
abbrev pub AreSeatsOf : List Happened → Run → List SeatValue → Type 0
AreSeatsOf before run seats = (k : ℕ) (default : SeatValue) → k < length seats → IsSeatOf before run (slice_index_or seats k default)

-- only workers below a number have settled anything since the events before (own)
abbrev pub SettledBelow : ℕ → List Happened → List Happened → Type 0
SettledBelow given before history =
    (since : List Happened) × (history ≡ before ++ since) × ((worker : ℕ) → given ≤ worker → tally_of worker since ≡ [])
