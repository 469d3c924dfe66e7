use Rattle.std.proofs.Common.{◌≡◌, Some, None, subst, sym, rules}
use Rattle.board.specs.Board.{board_problem}
use Rattle.board.specs.Legal.{IsReady, IsNextClaim}
use Rattle.solver.proofs.SolutionLemmas.{next-unbuilt, none-ready}
use Rattle.solver.proofs.sweep.turn.Goals as goal

pub returns-in_default-clause-over : goal.returns-in_default-clause-over
returns-in_default-clause-over g c =
    let old = c.args.board.now in
    let is = c.history-known.ensures in
    let same : c.claim.new.self ≡ old = search rules in
    let next : IsNextClaim (board_problem g.E.Executor.out old) old.run.history 64 None = search rules in
    subst (λ v. (vertex : _) → ¬ IsReady (board_problem g.E.Executor.out v) v.run.history vertex) (sym same) (none-ready (board_problem g.E.Executor.out old) old.run 64 is.problem is.replay c.requires.idle next)

pub returns-in-Ok-settle-clause-unbuilt : goal.returns-in-Ok-settle-clause-unbuilt
returns-in-Ok-settle-clause-unbuilt g c =
    let old = c.args.board.now in
    let is = c.history-known.ensures in
    let next : IsNextClaim (board_problem g.E.Executor.out old) old.run.history 64 (Some c.in-Some.claim.vertex) = search rules in
    next-unbuilt (board_problem g.E.Executor.out old) old.run 64 c.in-Some.claim.vertex is.problem is.replay next
