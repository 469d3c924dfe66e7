use Rattle.std.proofs.Common.{refl, ◌∙◌}
use Rattle.plans.specs.Plan.{problem_of}
use Rattle.memo.specs.Memo.{Knows}
use Rattle.memo.proofs.GrowLemmas.{grows-same}
use Rattle.solver.specs.Recall.{leaves_or_stays}
use Rattle.solver.proofs.SolutionLemmas.{left-same, runs-same}
use Rattle.workers.proofs.solving.solve.Goals as goal

-- where there is no configuration nothing has happened
pub returns-in_err-config-clause-left : goal.returns-in_err-config-clause-left
returns-in_err-config-clause-left g c = left-same (problem_of (g.E.Executor.out c.args.executor.now) c.args.plan.now) c.args.caches.now.contents c.args.caches.now.contents refl

pub returns-in_err-config-clause-runs : goal.returns-in_err-config-clause-runs
returns-in_err-config-clause-runs g c =
    let executor = c.args.executor.now in
    runs-same (leaves_or_stays (Knows c.args.memo.now) (g.E.Executor.leaves executor)) (problem_of (g.E.Executor.out executor) c.args.plan.now) c.args.caches.now.contents c.args.caches.now.contents refl

pub returns-in_err-config-clause-memo : goal.returns-in_err-config-clause-memo
returns-in_err-config-clause-memo g c = grows-same c.args.memo.now

-- the answer is the solution, with a copy of the plan's configuration
pub returns-in-Ok-clause-answer : goal.returns-in-Ok-clause-answer
returns-in-Ok-clause-answer g c = c.of.ensures (g.E.Executor.out c.args.executor.now) c.args.plan.now (c.in_ok-config.ensures ∙ c.config.ensures) c.in-Ok.ensures.solution
