use Rattle.std.proofs.Common.{◌≡◌, [], take}
use Rattle.plans.specs.Plan.{problem_of}
use Rattle.board.specs.Board.{board_problem}
use Rattle.board.specs.Leaving.{GivesBackWhatIsLeft}
use Rattle.board.specs.Legal.{Plays}
use Rattle.replay.specs.PrivateFollowing.{AreOut, AreLent}
use Rattle.replay.proofs.following.follow.Given as goal

abbrev pub invariant-loop-event : goal.invariant-loop-event
invariant-loop-event g l = record {
  same : board_problem g.E.Executor.out l.board ≡ problem_of (g.E.Executor.out l.executor) l.plan;
  executor : l.board.job.executor ≡ l.executor;
  first : l.board.first ≡ [];
  given : GivesBackWhatIsLeft (g.E.Executor.leaves l.board.job.executor) (board_problem g.E.Executor.out l.board) l.board.first l.board.run.history;
  plays : Plays (problem_of (g.E.Executor.out l.executor) l.plan) (take l.event-index l.events) l.board.run.history;
  out : AreOut (problem_of (g.E.Executor.out l.executor) l.plan) l.board.run.state.claims l.out.items;
  lent : AreLent (problem_of (g.E.Executor.out l.executor) l.plan) l.board.first l.board.run.history l.out.items;
}
