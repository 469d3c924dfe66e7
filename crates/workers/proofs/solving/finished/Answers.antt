use Rattle.std.proofs.Common.{◌∙◌, ℕ, ap, sym, subst}
use Rattle.board.specs.Board.{board_problem}
use Rattle.board.specs.Job.{job_problem}
use Rattle.board.specs.Leaving.{GivesBackWhatIsLeft}
use Rattle.board.specs.Legal.{IsReady}
use Rattle.solver.specs.Recall.{MayStay}
use Rattle.workers.proofs.solving.finished.Goals as goal

pub finish_recalled-requires-clause-stays : goal.finish_recalled-requires-clause-stays
finish_recalled-requires-clause-stays g c κs within =
    subst (λ board. MayStay g.J.Numbering.knows (g.E.Executor.leaves board.job.executor)) (sym c.in-Ok.ensures.ok) c.requires.stays

-- the job is that of the board which was given
pub returns-in-Ok-finish_recalled-clause-over : goal.returns-in-Ok-finish_recalled-clause-over
returns-in-Ok-finish_recalled-clause-over g c =
    let job = c.finish_recalled.ensures.job ∙ ap (λ board. board.job) c.in-Ok.ensures.ok in
    subst (λ j. (vertex : ℕ) → ¬ IsReady (job_problem g.E.Executor.out j) c.finish_recalled.new.board.run.history vertex) job c.in-Ok-finish_recalled.ensures.over

-- what was given back before the caller's thread went on was what runs left, and so it is afterwards
pub returns-in-Ok-finish_recalled-clause-given : goal.returns-in-Ok-finish_recalled-clause-given
returns-in-Ok-finish_recalled-clause-given g c =
    c.finish_recalled.ensures.left
    (subst (λ board. GivesBackWhatIsLeft (g.E.Executor.leaves board.job.executor) (board_problem g.E.Executor.out board) board.first board.run.history) (sym c.in-Ok.ensures.ok) c.requires.given)
