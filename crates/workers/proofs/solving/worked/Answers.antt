use Rattle.std.proofs.Common.{sym, subst}
use Rattle.board.specs.Board.{board_problem}
use Rattle.board.specs.Leaving.{GivesBackWhatIsLeft}
use Rattle.workers.proofs.solving.worked.Goals as goal

-- nothing has happened, so nothing was given back
pub returns-in_default-clause-given : goal.returns-in_default-clause-given
returns-in_default-clause-given g c =
    let board = c.args.board in
    subst (GivesBackWhatIsLeft (g.E.Executor.leaves board.job.executor) (board_problem g.E.Executor.out board) board.first) (sym c.requires.begun) tt

pub new-site-requires-clause-given : goal.new-site-requires-clause-given
new-site-requires-clause-given g c κs within = λ promised.
    let board = c.args.board in
    subst (GivesBackWhatIsLeft (g.E.Executor.leaves board.job.executor) (board_problem g.E.Executor.out board) board.first) (sym c.requires.begun) tt

pub new-site-requires-clause-leaves : goal.new-site-requires-clause-leaves
new-site-requires-clause-leaves g c κs within = λ promised. c.requires.leaves

-- the site's case promises what its board says then
pub returns-clause-leaves : goal.returns-clause-leaves
returns-clause-leaves g c = c.close.ensures.leaves c.requires.promises

pub returns-clause-given : goal.returns-clause-given
returns-clause-given g c = c.close.ensures.given c.requires.promises
