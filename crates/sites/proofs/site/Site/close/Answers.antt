use Rattle.std.proofs.Common.{sym, ap, ◌∙◌, subst}
use Rattle.std.specs.Prelude.{IsSome, slice_index_or}
use Rattle.board.specs.Board.{BoardValue, board_problem}
use Rattle.board.specs.Leaving.{LeaveTheSame}
use Rattle.board.specs.Play.{value_at}
use Rattle.sites.specs.Seats.{AreAll, AreTallies}
use Rattle.sites.specs.PrivateSeats.{AreSeatsOf}
use Rattle.sites.proofs.BookLemmas.{seat-settled}
use Rattle.sites.proofs.TallyLemmas.{tallies, cleared-settled}
use Rattle.sites.proofs.site.Site.close.Goals as goal

pub returns-clause-tallies : goal.returns-clause-tallies
returns-clause-tallies g c = λ all.
    let seats = c.args.seats.now in
    let before = g.J.Case.before in
    let held = c.agree_all.new.self in
    let board = c.into_board-board.result in
    let known = c.complete.ensures in
    let are = subst (λ (b : BoardValue _). AreSeatsOf before b.run seats) (sym c.agree_all.ensures.same.0) c.agree_all.ensures.agrees in
    let given = subst (λ n. AreAll n seats) (sym c.self.view_is) all in
    let told = tallies before g.J.Case.problem held.run c.self.inside.giver seats known.problem known.replay are known.since given in
    let kept = cleared-settled (board_problem g.E.Executor.out board) board.run c.abandon_all.new.self.run c.abandon_all.ensures.run in
    let same = kept ∙ ap (λ (b : BoardValue _). b.run.state.settled) (c.into_board-board.ensures.board ∙ known.same.0) in
    subst (λ settled. AreTallies before settled seats) (sym same) told

pub returns-clause-settled : goal.returns-clause-settled
returns-clause-settled g c = λ k vertex default less among.
    let seats = c.args.seats.now in
    let held = c.agree_all.new.self in
    let board = c.into_board-board.result in
    let known = c.complete.ensures in
    let are = subst (λ (b : BoardValue _). AreSeatsOf g.J.Case.before b.run seats) (sym c.agree_all.ensures.same.0) c.agree_all.ensures.agrees in
    let told = seat-settled g.J.Case.before g.J.Case.problem held.run (slice_index_or seats k default) vertex known.problem known.replay (are k default less) among in
    let kept = cleared-settled (board_problem g.E.Executor.out board) board.run c.abandon_all.new.self.run c.abandon_all.ensures.run in
    let same = kept ∙ ap (λ (b : BoardValue _). b.run.state.settled) (c.into_board-board.ensures.board ∙ known.same.0) in
    subst (λ settled. IsSome (value_at settled vertex)) (sym same) told

pub returns-clause-leaves : goal.returns-clause-leaves
returns-clause-leaves g c = λ promised.
    let board = c.into_board-board in
    subst (λ job. LeaveTheSame (g.E.Executor.leaves job.executor) g.J.Case.leaves) (sym c.abandon_all.ensures.job) (board.ensures.leaves promised)

pub returns-clause-given : goal.returns-clause-given
returns-clause-given g c = λ promised. c.abandon_all.ensures.left (c.into_board-board.ensures.given promised)
