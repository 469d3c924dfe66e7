-- What a board has settled where it can't go on and its target has no tree, whatever list of events led there.
use Rattle.std.specs.Prelude.{◌≡◌, ◌≤◌, ℕ, List, Some, None, Err}
use Rattle.trees.specs.declared.cause.Cause.{Cause}
use Rattle.plans.specs.Plan.{PlanValue, Problem, IsValue, line_at, problem_of}
use Rattle.plans.specs.Value.{Out}
use Rattle.board.specs.Legal.{vertex_out, IsSettled, HasTree, HasCause, IsReady}
use Rattle.board.specs.Play.{Run, IsReplay}
use Rattle.board.specs.declared.event.Happened.{Happened}
use Rattle.lowering.specs.Meaning.{Rows, serial}
use Rattle.lowering.specs.Means.{world}

-- a run of a board has come to its end and left the target without a tree: no claim is out, no vertex is ready, and the target isn't settled with
-- a tree (own)
pub record EndsTreeless (problem : Problem) (run : Run) : Type 0 where
  pub replay : IsReplay problem run
  pub idle : (worker : ℕ) → vertex_out run.history worker ≡ None
  pub none : (vertex : ℕ) → ¬ IsReady problem run.history vertex
  pub treeless : ¬ (IsSettled run.history problem.target × HasTree problem problem.target)

-- of all causes that a history has settled this is one of the least line (own)
pub record IsLeastCause (problem : Problem) (history : List Happened) (line : ℕ) (cause : Cause) : Type 0 where
  pub vertex : ℕ
  pub settled : IsSettled history vertex
  pub value : IsValue problem vertex (Err cause)
  pub on : line ≡ line_at problem vertex
  pub least : (other : ℕ) → IsSettled history other → HasCause problem other → line ≤ line_at problem other

-- Every interleaving finds the first failure: each run of a board on the plan that ends so has settled a cause, and the settled cause of the least
-- line is that of the first instruction that fails (own)
abbrev pub FindsFirst : {C : Type 0} → Out → PlanValue C → Rows → Type 0
FindsFirst out plan rows = (run : Run) → EndsTreeless (problem_of out plan) run
    → ((vertex : ℕ) × IsSettled run.history vertex × HasCause (problem_of out plan) vertex)
    × ((line : ℕ) (cause : Cause) → IsLeastCause (problem_of out plan) run.history line cause → serial (world out plan.sources) rows ≡ Some (line, cause))
