use Rattle.board.specs.Board.{board_problem}
use Rattle.solver.specs.PrivateSolution.{IsLeastFailure}
use Rattle.solver.proofs.solution.least_failure.Given as goal

abbrev pub invariant-loop-number : goal.invariant-loop-number
invariant-loop-number g l = IsLeastFailure (board_problem g.E.Executor.out l.board) l.board.run.state.settled l.number l.least
