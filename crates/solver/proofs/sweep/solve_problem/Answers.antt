use Rattle.std.proofs.Common.{◌∙◌, ℕ, ap, sym, subst, IfOk}
use Rattle.board.specs.Legal.{IsReady}
use Rattle.board.specs.Board.{AreLeft}
use Rattle.board.specs.Leaving.{GivesBackWhatIsLeft, AreLeftByRuns, AreLeftAtEnd}
use Rattle.board.proofs.LeavingLemmas.{left-at-end}
use Rattle.board.specs.Job.{job_problem}
use Rattle.plans.specs.Plan.{problem_of}
use Rattle.solver.specs.Solution.{IsSolution}
use Rattle.solver.proofs.RecallLemmas.{on-ok-more}
use Rattle.solver.proofs.SolutionLemmas.{left-same, runs-same}
use Rattle.solver.proofs.sweep.solve_problem.Goals as goal

pub returns-clause-solution : goal.returns-clause-solution
returns-clause-solution g c =
    let out = g.E.Executor.out in
    let job = ap (λ board. board.job) c.in-Ok.ensures.ok ∙ c.new-2.ensures in
    subst (λ j. IfOk c.finish-solution.result (IsSolution (job_problem out j))) job c.finish-solution.ensures.solution

-- where there is no board, nothing has happened
pub returns-in-Err-clause-left : goal.returns-in-Err-clause-left
returns-in-Err-clause-left g c =
    left-same (problem_of (g.E.Executor.out c.args.executor.now) c.args.plan.now) c.args.caches.now.contents c.in-Err.refused.caches.contents (ap (λ store. store.contents) (c.in-Err.ensures.back ∙ c.replace-lent.ensures.value))

pub returns-clause-left : goal.returns-clause-left
returns-clause-left g c =
    let out = g.E.Executor.out in
    let job = c.finish-solution.ensures.job ∙ ap (λ board. board.job) c.in-Ok.ensures.ok ∙ c.new-2.ensures in
    let first = c.finish-solution.ensures.first ∙ ap (λ board. board.first) c.in-Ok.ensures.ok ∙ ap (λ store. store.contents) c.replace-lent.ensures.value in
    let named = subst (λ j. AreLeft (job_problem out j) c.finish-solution.new.board.first c.into_caches.result.contents) job c.into_caches.ensures.left in
    subst (λ f. AreLeft (problem_of (out c.args.executor.now) c.args.plan.now) f c.into_caches.result.contents) first named

pub returns-in-Err-clause-runs : goal.returns-in-Err-clause-runs
returns-in-Err-clause-runs g c =
    let executor = c.args.executor.now in
    runs-same (g.E.Executor.leaves executor) (problem_of (g.E.Executor.out executor) c.args.plan.now) c.args.caches.now.contents c.in-Err.refused.caches.contents (ap (λ store. store.contents) (c.in-Err.ensures.back ∙ c.replace-lent.ensures.value))

pub returns-clause-runs : goal.returns-clause-runs
returns-clause-runs g c =
    let out = g.E.Executor.out in
    let leaves = g.E.Executor.leaves in
    let job = c.finish-solution.ensures.job ∙ ap (λ board. board.job) c.in-Ok.ensures.ok ∙ c.new-2.ensures in
    let first = c.finish-solution.ensures.first ∙ ap (λ board. board.first) c.in-Ok.ensures.ok ∙ ap (λ store. store.contents) c.replace-lent.ensures.value in
    let board = c.finish-solution.new.board in
    let begun = subst (λ b. GivesBackWhatIsLeft (leaves b.job.executor) (job_problem out b.job) b.first b.run.history) (sym c.in-Ok.ensures.ok) tt in
    let runs = c.into_caches.ensures.runs (c.finish-solution.ensures.left begun) in
    let named = subst (λ j. AreLeftByRuns (leaves j.executor) (job_problem out j) board.first c.into_caches.result.contents) job runs in
    subst (λ f. AreLeftByRuns (leaves c.args.executor.now) (problem_of (out c.args.executor.now) c.args.plan.now) f c.into_caches.result.contents) first named

-- no vertex is ready after the history that left them
pub returns-clause-ended : goal.returns-clause-ended
returns-clause-ended g c =
    let out = g.E.Executor.out in
    let leaves = g.E.Executor.leaves in
    let board = c.finish-solution.new.board in
    let problem = job_problem out board.job in
    let known = c.history-known.ensures in
    let job = c.finish-solution.ensures.job ∙ ap (λ board. board.job) c.in-Ok.ensures.ok ∙ c.new-2.ensures in
    let first = c.finish-solution.ensures.first ∙ ap (λ board. board.first) c.in-Ok.ensures.ok ∙ ap (λ store. store.contents) c.replace-lent.ensures.value in
    let begun = subst (λ b. GivesBackWhatIsLeft (leaves b.job.executor) (job_problem out b.job) b.first b.run.history) (sym c.in-Ok.ensures.ok) tt in
    let given = c.finish-solution.ensures.left begun in
    on-ok-more ((vertex : ℕ) → ¬ IsReady problem board.run.history vertex)
    (AreLeftAtEnd (leaves c.args.executor.now) (problem_of (out c.args.executor.now) c.args.plan.now) c.args.caches.now.contents c.into_caches.result.contents)
    c.finish-solution.result
    (λ over.
    let ended = left-at-end (leaves board.job.executor) problem board.run board.first board.contents known.problem known.replay c.finish-solution.ensures.idle known.contents given over in
    let held = subst (AreLeftAtEnd (leaves board.job.executor) problem board.first) (sym (ap (λ store. store.contents) c.into_caches.ensures.value)) ended in
    let named = subst (λ j. AreLeftAtEnd (leaves j.executor) (job_problem out j) board.first c.into_caches.result.contents) job held in
    subst (λ f. AreLeftAtEnd (leaves c.args.executor.now) (problem_of (out c.args.executor.now) c.args.plan.now) f c.into_caches.result.contents) first named)
    c.finish-solution.ensures.over
