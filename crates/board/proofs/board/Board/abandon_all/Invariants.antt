use Rattle.std.proofs.Common.{◌≡◌, length}
use Rattle.board.specs.Play.{Run}
use Rattle.board.specs.Clearing.{IsCleared}
use Rattle.board.specs.Board.{board_problem}
use Rattle.board.specs.Leaving.{GivesBackWhatIsLeft}
use Rattle.board.proofs.board.Board.abandon_all.Given as goal

abbrev pub invariant-loop-claim : goal.invariant-loop-claim
invariant-loop-claim g l = record {
  job : l.self.job ≡ l.fn.self.job;
  first : l.self.first ≡ l.fn.self.first;
  cleared : (after : Run) → IsCleared (board_problem g.E.Executor.out l.fn.self) l.self.run after → IsCleared (board_problem g.E.Executor.out l.fn.self) l.fn.self.run after;
  left : GivesBackWhatIsLeft (g.E.Executor.leaves l.fn.self.job.executor) (board_problem g.E.Executor.out l.fn.self) l.fn.self.first l.fn.self.run.history → GivesBackWhatIsLeft (g.E.Executor.leaves l.self.job.executor) (board_problem g.E.Executor.out l.self) l.self.first l.self.run.history;
}

abbrev pub decreases-loop-claim : goal.decreases-loop-claim
decreases-loop-claim g l = length l.self.run.state.claims
