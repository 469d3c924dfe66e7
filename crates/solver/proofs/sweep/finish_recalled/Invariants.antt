use Rattle.std.proofs.Common.{◌≡◌, [], true}
use Rattle.board.specs.Board.{board_problem}
use Rattle.board.specs.Leaving.{GivesBackWhatIsLeft}
use Rattle.board.specs.Play.{unsettled_count, value_at}
use Rattle.board.specs.Readiness.{has_tree}
use Rattle.solver.proofs.sweep.finish_recalled.Given as goal

-- a board whose target is settled with a tree stays as it is
abbrev pub invariant-loop : goal.invariant-loop
invariant-loop g l = record {
  job : l.board.job ≡ l.fn.board.job;
  first : l.board.first ≡ l.fn.board.first;
  left : GivesBackWhatIsLeft (g.E.Executor.leaves l.fn.board.job.executor) (board_problem g.E.Executor.out l.fn.board) l.fn.board.first l.fn.board.run.history
      → GivesBackWhatIsLeft (g.E.Executor.leaves l.board.job.executor) (board_problem g.E.Executor.out l.board) l.board.first l.board.run.history;
  idle : l.board.run.state.claims ≡ [];
  built : has_tree (value_at l.fn.board.run.state.settled l.fn.board.job.target) ≡ true → l.board ≡ l.fn.board;
}

abbrev pub decreases-loop : goal.decreases-loop
decreases-loop g l = unsettled_count l.board.run.state.settled
