-- The failure of least line that is settled, and how far it was looked for (own).
use Rattle.std.specs.Prelude.{◌≡◌, ◌≤◌, ◌<◌, ℕ, true, false, Option, Some, None, Err, List}
use Rattle.trees.specs.Cause.{TreeOrCause}
use Rattle.plans.specs.Plan.{Problem, line_at}
use Rattle.board.specs.Play.{value_at}
use Rattle.board.specs.Readiness.{has_cause}
use Rattle.solver.specs.declared.solution.Failure.{Failure}

-- of the vertices below a number, one that is settled with a cause, and of these none has a lesser line
pub record IsLeastSettled (problem : Problem) (settled : List (Option TreeOrCause)) (bound : ℕ) (failure : Failure) : Type 0 where
  pub settled_so : value_at settled failure.vertex ≡ Some (Err failure.cause)
  pub place : failure.place ≡ line_at problem failure.vertex
  pub least : (vertex : ℕ) → vertex < bound → has_cause (value_at settled vertex) ≡ true → failure.place ≤ line_at problem vertex

-- the same, or none is settled with a cause
abbrev pub IsLeastFailure : Problem → List (Option TreeOrCause) → ℕ → Option Failure → Type 0
IsLeastFailure problem settled bound None = (vertex : ℕ) → vertex < bound → has_cause (value_at settled vertex) ≡ false
IsLeastFailure problem settled bound (Some failure) = IsLeastSettled problem settled bound failure
