-- What stops a vertex. The machine and the rules over histories both take it from here, so that another rule is one change for both.
use Rattle.std.specs.Prelude.{ℕ, zero, suc, Bool, true, false, not, ◌||◌, ◌&&◌, Option, Some, None, is_some, Ok, Err, length, nat_lt}
use Rattle.trees.specs.Cause.{TreeOrCause}
use Rattle.plans.specs.Plan.{Problem, line_at}

-- whether a vertex is settled with a tree (own)
abbrev pub has_tree : Option TreeOrCause → Bool
has_tree (Some (Ok tree)) = true
has_tree (Some (Err cause)) = false
has_tree None = false

-- whether a vertex is settled with a cause (own)
abbrev pub has_cause : Option TreeOrCause → Bool
has_cause (Some (Ok tree)) = false
has_cause (Some (Err cause)) = true
has_cause None = false

-- whether a number below a bound passes a test (own)
abbrev pub any_below : (ℕ → Bool) → ℕ → Bool
any_below test zero = false
any_below test (suc n) = any_below test n || test n

-- whether a vertex is stopped, as vertices are settled so: the target is settled, or the least line of a vertex that is settled with a
-- cause isn't greater than this vertex's (own)
abbrev pub stops : Problem → (ℕ → Option TreeOrCause) → ℕ → Bool
stops problem settled vertex =
    is_some (settled problem.target)
    || any_below (λ other. has_cause (settled other) && not (nat_lt (line_at problem vertex) (line_at problem other))) (length problem.vertices)
