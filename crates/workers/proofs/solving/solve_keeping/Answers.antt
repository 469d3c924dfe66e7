use Rattle.std.proofs.Common.{refl}
use Rattle.plans.specs.Plan.{problem_of}
use Rattle.memo.specs.Memo.{Knows}
use Rattle.memo.proofs.GrowLemmas.{grows-same}
use Rattle.solver.specs.Recall.{leaves_or_stays}
use Rattle.solver.proofs.SolutionLemmas.{left-same, runs-same}
use Rattle.workers.proofs.solving.solve_keeping.Goals as goal

-- where there is no roll nothing has happened
pub returns-in_err-opened-clause-left : goal.returns-in_err-opened-clause-left
returns-in_err-opened-clause-left g c = left-same (problem_of (g.E.Executor.out c.args.executor.now) c.args.plan.now) c.args.caches.now.contents c.args.caches.now.contents refl

pub returns-in_err-opened-clause-runs : goal.returns-in_err-opened-clause-runs
returns-in_err-opened-clause-runs g c =
    let executor = c.args.executor.now in
    runs-same (leaves_or_stays (Knows c.args.memo.now) (g.E.Executor.leaves executor)) (problem_of (g.E.Executor.out executor) c.args.plan.now) c.args.caches.now.contents c.args.caches.now.contents refl

pub returns-in_err-opened-clause-memo : goal.returns-in_err-opened-clause-memo
returns-in_err-opened-clause-memo g c = grows-same c.args.memo.now

-- the findings are of the board's problem
pub solved-outcome-requires-clause-named : goal.solved-outcome-requires-clause-named
solved-outcome-requires-clause-named g c κs within = record { same_out = refl; same_values = refl }

pub solved-outcome-requires-clause-knows : goal.solved-outcome-requires-clause-knows
solved-outcome-requires-clause-knows g c κs within = λ request known. known

pub solved-outcome-requires-clause-leaves : goal.solved-outcome-requires-clause-leaves
solved-outcome-requires-clause-leaves g c κs within = λ request before after. ((λ is. is), (λ is. is))
