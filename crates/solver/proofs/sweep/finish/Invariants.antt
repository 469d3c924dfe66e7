use Rattle.std.proofs.Common.{[]}
use Rattle.board.specs.Board.{board_problem}
use Rattle.board.specs.Problem.{values_in}
use Rattle.solver.proofs.sweep.finish.Given as goal

-- there is no memo
abbrev pub ghosts-finish_alone : goal.ghosts-finish_alone
ghosts-finish_alone g a = record {
  out = g.E.Executor.out a.board.now.job.executor;
  values = values_in (board_problem g.E.Executor.out a.board.now);
  recent = [];
  earlier = [];
  knows = λ request. ⊥;
}
