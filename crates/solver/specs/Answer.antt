-- What an answer to a plan has to say: a solution of its problem, and the plan's own configuration.
use Rattle.std.specs.Prelude.{◌≡◌, ℕ}
use Rattle.plans.specs.Plan.{PlanValue, problem_of}
use Rattle.plans.specs.Value.{Out}
use Rattle.solver.specs.Solution.{IsFailure, IsSolution}
use Rattle.solver.specs.declared.answer.Answer.{Answer}
use Rattle.solver.specs.declared.answer.Answer.TheVariants.{Built, Failed}
use Rattle.solver.specs.declared.solution.Solution.TheVariants as solution

-- an answer to a plan under an executor's answers: the tree that is the target's value, with the plan's configuration; or the failure of
-- least line that was settled, by that line and its cause (own)
abbrev pub IsAnswer : {C : Type 0} → Out → PlanValue C → Answer C → Type 0
IsAnswer out plan (Built tree config) = IsSolution (problem_of out plan) (solution.Built tree) × (config ≡ plan.config)
IsAnswer out plan (Failed place cause) = (vertex : ℕ) × IsFailure (problem_of out plan) vertex place cause

-- two answers are alike: both built with one tree and one configuration, or both failed (own)
abbrev pub AreAlike : {C : Type 0} → Answer C → Answer C → Type 0
AreAlike (Built tree config) (Built other beside) = (tree ≡ other) × (config ≡ beside)
AreAlike (Built tree config) (Failed place cause) = ⊥
AreAlike (Failed place cause) (Built tree config) = ⊥
AreAlike (Failed place cause) (Failed line why) = Unit {0}
