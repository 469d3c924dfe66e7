-- When all claims of a board were abandoned, in the order of their workers.
use Rattle.std.specs.Prelude.{◌≡◌, ℕ, ◌≤◌, List, [], Some, slice_get}
use Rattle.plans.specs.Plan.{Problem}
use Rattle.board.specs.Play.{Run, Abandon, go}
use Rattle.board.specs.declared.claim.ClaimOut.{ClaimOut}

-- a claim is out, and no claim of a worker with a lower number is (own)
pub record IsLeastWorker (claims : List ClaimOut) (claim : ClaimOut) : Type 0 where
  pub at : ℕ
  pub there : slice_get claims at ≡ Some claim
  pub least : (k : ℕ) (other : ClaimOut) → slice_get claims k ≡ Some other → claim.worker ≤ other.worker

-- the claims that are out were abandoned one after the other, always that of the least worker, until none was left (own)
pub data IsCleared (problem : Problem) : Run → Run → Type 0 where
  no_claim : (run : Run) → run.state.claims ≡ [] → IsCleared problem run run
  least_first : (run after : Run) (claim : ClaimOut) → IsLeastWorker run.state.claims claim
      → IsCleared problem (go problem run (Abandon claim.worker)) after → IsCleared problem run after
