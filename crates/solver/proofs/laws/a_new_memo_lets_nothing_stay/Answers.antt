use Rattle.board.proofs.LeavingLemmas.{left_by_runs-same, left-at-end-same}
use Rattle.memo.specs.Memo.{Knows, new_memo}
use Rattle.solver.specs.Recall.{leaves_or_stays}
use Rattle.solver.proofs.RecallLemmas.{nothing-stays}
use Rattle.solver.proofs.laws.a_new_memo_lets_nothing_stay.Goals as goal

pub returns-clause-same : goal.returns-clause-same
returns-clause-same g c = λ executor for_one. nothing-stays executor for_one (g.E.Executor.leaves executor)

pub returns-clause-runs : goal.returns-clause-runs
returns-clause-runs g c = λ executor for_one problem first contents.
    left_by_runs-same (leaves_or_stays (Knows (new_memo executor for_one)) (g.E.Executor.leaves executor)) (g.E.Executor.leaves executor) problem first contents
    (nothing-stays executor for_one (g.E.Executor.leaves executor))

pub returns-clause-ended : goal.returns-clause-ended
returns-clause-ended g c = λ executor for_one problem first contents.
    left-at-end-same (leaves_or_stays (Knows (new_memo executor for_one)) (g.E.Executor.leaves executor)) (g.E.Executor.leaves executor) problem first contents
    (nothing-stays executor for_one (g.E.Executor.leaves executor))
