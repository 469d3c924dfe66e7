-- What a solution of a problem has to say.
use Rattle.std.specs.Prelude.{◌≡◌, ◌≤◌, ℕ, None, Ok, Err, List}
use Rattle.trees.specs.TreeMap.{TreeMap}
use Rattle.trees.specs.declared.cause.Cause.{Cause}
use Rattle.plans.specs.Plan.{Problem, IsValue, NeedsAll, line_at, HasLinesInOrder}
use Rattle.board.specs.Legal.{vertex_out, IsSettled, HasTree, HasCause, IsReady, IsLegal}
use Rattle.board.specs.declared.event.Happened.{Happened}
use Rattle.solver.specs.declared.solution.Solution.{Solution}
use Rattle.solver.specs.declared.solution.Solution.TheVariants.{Built, Failed}

-- some legal history settles this vertex and leaves nothing to do, since no claim is out and no vertex is ready. It doesn't settle the
-- target with a tree, and no vertex that it settles with a cause has a lesser line (own)
pub record IsLeastAtEnd (problem : Problem) (vertex : ℕ) : Type 0 where
  pub history : List Happened
  pub legal : IsLegal problem history
  pub idle : (worker : ℕ) → vertex_out history worker ≡ None
  pub none_ready : (other : ℕ) → ¬ IsReady problem history other
  pub unbuilt : ¬ (IsSettled history problem.target × HasTree problem problem.target)
  pub settled : IsSettled history vertex
  pub least : (other : ℕ) → IsSettled history other → HasCause problem other → line_at problem vertex ≤ line_at problem other

-- no vertex that fails has a lesser line than this one (own)
abbrev pub IsFirst : Problem → ℕ → Type 0
IsFirst problem line = (vertex : ℕ) (cause : Cause) → IsValue problem vertex (Err cause) → line ≤ line_at problem vertex

-- a vertex has this cause as its value, and of the lines behind it this is the least; 0 if there is none. Of the failures that some
-- history has settled at its end it is that of least line. If the target needs every vertex and lines are in order, no vertex that fails
-- has a lesser one (own)
pub record IsFailure (problem : Problem) (vertex place : ℕ) (cause : Cause) : Type 0 where
  pub value : IsValue problem vertex (Err cause)
  pub least : place ≡ line_at problem vertex
  pub settled : IsLeastAtEnd problem vertex
  pub first : NeedsAll problem → HasLinesInOrder problem → IsFirst problem place

-- a solution of a problem: the tree that is the target's value, or the failure of least line that was settled, with its cause and that
-- line (own)
abbrev pub IsSolution : Problem → Solution → Type 0
IsSolution problem (Built tree) = IsValue problem problem.target (Ok tree)
IsSolution problem (Failed vertex place cause) = IsFailure problem vertex place cause

-- a solution is built, with this tree (own)
abbrev pub IsBuilt : TreeMap → Solution → Type 0
IsBuilt tree (Built other) = other ≡ tree
IsBuilt tree (Failed vertex place cause) = ⊥

-- two solutions are alike: both built with one tree, or both failed (own)
abbrev pub AreAlike : Solution → Solution → Type 0
AreAlike (Built tree) (Built other) = tree ≡ other
AreAlike (Built tree) (Failed vertex place cause) = ⊥
AreAlike (Failed vertex place cause) (Built tree) = ⊥
AreAlike (Failed vertex place cause) (Failed other line why) = Unit {0}
