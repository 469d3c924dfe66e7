-- Solutions and answers where the target needs every vertex.
use Rattle.std.proofs.Common.{◌≡◌, ◌∙◌, ◌≤◌, ℕ, Some, Ok, sym, arith}
use Rattle.trees.specs.declared.cause.Cause.{Cause}
use Rattle.llb.specs.Graph.{AreVertices}
use Rattle.plans.specs.Plan.{PlanValue, IsPlan, Problem, problem_of, NeedsAll, line_at, HasLinesInOrder}
use Rattle.plans.specs.Value.{Out}
use Rattle.plans.proofs.NeedsLaws.{failing_leaves}
use Rattle.solver.specs.Answer.{IsAnswer, AreAlike}
use Rattle.solver.specs.Solution.{IsFailure, IsSolution}
use Rattle.solver.specs.Solution.{AreAlike as AreAlikeSolutions}
use Rattle.solver.specs.declared.answer.Answer.{Answer}
use Rattle.solver.specs.declared.answer.Answer.TheVariants.{Built, Failed}
use Rattle.solver.specs.declared.solution.Solution.{Solution}
use Rattle.solver.specs.declared.solution.Solution.TheVariants as solution

-- two solutions of a problem whose target needs every vertex are alike
pub alike-solutions : (problem : Problem) (this that : Solution) → AreVertices problem.vertices → NeedsAll problem → IsSolution problem this → IsSolution problem that → AreAlikeSolutions this that
alike-solutions problem (solution.Built tree) (solution.Built other) are needs this that =
    let f : Some (Ok tree) ≡ Some (Ok other) = sym this ∙ that in
    cc
alike-solutions problem (solution.Built tree) (solution.Failed vertex place cause) are needs this that = failing_leaves problem vertex cause tree are needs that.value this
alike-solutions problem (solution.Failed vertex place cause) (solution.Built tree) are needs this that = failing_leaves problem vertex cause tree are needs this.value that
alike-solutions problem (solution.Failed vertex place cause) (solution.Failed other line why) are needs this that = tt

-- two answers to a plan whose target needs every vertex are alike
pub alike : {C : Type 0} (out : Out) (plan : PlanValue C) (this that : Answer C) → IsPlan plan → NeedsAll (problem_of out plan) → IsAnswer out plan this → IsAnswer out plan that → AreAlike this that
alike out plan (Built tree config) (Built other beside) is needs this that =
    (alike-solutions (problem_of out plan) (solution.Built tree) (solution.Built other) is.graph.vertices needs this.0 that.0, this.1 ∙ sym that.1)
alike out plan (Built tree config) (Failed place cause) is needs this that =
    failing_leaves (problem_of out plan) that.0 cause tree is.graph.vertices needs that.1.value this.0
alike out plan (Failed place cause) (Built tree config) is needs this that =
    failing_leaves (problem_of out plan) this.0 cause tree is.graph.vertices needs this.1.value that.0
alike out plan (Failed place cause) (Failed other why) is needs this that = tt

-- where lines are in order too, two failures have one line
pub one_line : (problem : Problem) (vertex place other line : ℕ) (cause why : Cause) → NeedsAll problem → HasLinesInOrder problem → IsFailure problem vertex place cause → IsFailure problem other line why → place ≡ line
one_line problem vertex place other line cause why needs in_order this that =
    let here : place ≤ line_at problem other = this.first needs in_order other why that.value in
    let there : line ≤ line_at problem vertex = that.first needs in_order vertex cause this.value in
    let own = this.least in
    let beside = that.least in
    omega (arith, here, there, own, beside)
