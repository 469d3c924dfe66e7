use Rattle.std.proofs.Common.{◌≡◌, ◌≤◌}
use Rattle.std.specs.Prelude.{vec_len, vec_capacity}
use Rattle.workers.proofs.solving.worked.Given as goal

-- so many seats were given, and there is room for the others
abbrev pub invariant-loop : goal.invariant-loop
invariant-loop g l = (l.site ≡ l.counter) × (vec_len l.seats ≡ l.counter) × (l.fn.workers ≤ vec_capacity l.seats)
