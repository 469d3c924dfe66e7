use Rattle.std.proofs.Common.{◌≡◌, ℕ, ◌<◌, ◌≤◌, Some}
use Rattle.std.specs.Prelude.{slice_get}
use Rattle.board.specs.declared.claim.ClaimOut.{ClaimOut}
use Rattle.board.proofs.state.least_worker.Given as goal

abbrev pub invariant-loop-claim : goal.invariant-loop-claim
invariant-loop-claim l = record {
  among : (place : ℕ) × (slice_get l.claims place ≡ Some l.least);
  below : (k : ℕ) (other : ClaimOut) → k < l.claim-index → slice_get l.claims k ≡ Some other → l.least.worker ≤ other.worker;
}
