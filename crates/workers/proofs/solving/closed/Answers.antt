use Rattle.std.proofs.Common.{◌∙◌, Result, Ok, Err, IfErr, ap, subst}
use Rattle.board.specs.Board.{board_problem}
use Rattle.board.specs.Leaving.{AreLeftByRuns}
use Rattle.board.proofs.LeavingLemmas.{left_by_runs-same}
use Rattle.solver.proofs.SolutionLemmas.{left-same, runs-same}
use Rattle.workers.proofs.solving.closed.Goals as goal

err-more : {X Y : Type 0} (P Q : Y → Type 0) (result : Result X Y) → ((y : Y) → P y → Q y) → IfErr result P → IfErr result Q
err-more P Q (Ok x) more is = is
err-more P Q (Err y) more is = more y is

-- where there is no board nothing has happened
pub returns-in-Err-clause-left : goal.returns-in-Err-clause-left
returns-in-Err-clause-left g c = left-same g.J.Case.problem g.J.Case.first c.in-Err.refused.caches.contents (ap (λ store. store.contents) c.in-Err.ensures.back ∙ c.requires.first)

pub returns-in-Err-clause-runs : goal.returns-in-Err-clause-runs
returns-in-Err-clause-runs g c = runs-same g.J.Case.leaves g.J.Case.problem g.J.Case.first c.in-Err.refused.caches.contents (ap (λ store. store.contents) c.in-Err.ensures.back ∙ c.requires.first)

-- the board that the workers left is of the same problem and contents
pub returns-clause-runs : goal.returns-clause-runs
returns-clause-runs g c =
    let board = c.worked-board.result in
    let leaves = g.E.Executor.leaves board.job.executor in
    err-more (λ caches. AreLeftByRuns leaves (board_problem g.E.Executor.out board) board.first caches.contents)
    (λ caches. AreLeftByRuns g.J.Case.leaves g.J.Case.problem g.J.Case.first caches.contents) c.finished.result
    (λ caches is.
    let named = subst (λ p. AreLeftByRuns leaves p board.first caches.contents) c.worked-board.ensures.problem is in
    let here = subst (λ first. AreLeftByRuns leaves g.J.Case.problem first caches.contents) c.worked-board.ensures.first named in
    left_by_runs-same leaves g.J.Case.leaves g.J.Case.problem g.J.Case.first caches.contents c.worked-board.ensures.leaves here)
    c.finished.ensures.runs
