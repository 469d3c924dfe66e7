use Rattle.std.proofs.Common.{◌≡◌, Option, sym, ap, ◌∙◌, subst}
use Rattle.std.specs.Prelude.{IsSome}
use Rattle.rolls.specs.Rolls.{of_worker}
use Rattle.board.specs.Board.{BoardValue, board_problem}
use Rattle.board.specs.Leaving.{lent_to}
use Rattle.board.specs.Play.{IsReplay, claim_of}
use Rattle.board.specs.Problem.{IsProblem}
use Rattle.board.specs.declared.claim.ClaimOut.{ClaimOut}
use Rattle.sites.specs.Seats.{SeatValue, IsSeatOf, loan_of}
use Rattle.sites.proofs.BookLemmas.{seat-claim, seat-of, seat-out}
use Rattle.sites.proofs.held.Held.agree.Goals as goal

pub returns-clause-agrees : goal.returns-clause-agrees
returns-clause-agrees g c =
    let s = c.seat.inside in
    let h = c.self.inside in
    let agrees = c.agree.ensures.agrees ∙ ap (λ w. of_worker w h.roll) c.seat.invariant.0 in
    let known = c.history-known.ensures in
    let is = seat-of g.J.Case.before (board_problem g.E.Executor.out h.board) h.board.run h.roll s.worker s.out s.tally.items (loan_of s.slip.mine) s.slip.mine known.problem known.replay c.self.invariant.1 c.seat.invariant.1 agrees in
    subst (λ (v : SeatValue). IsSeatOf g.J.Case.before c.args.self.now.run v) c.seat.view_is (subst (λ (b : BoardValue _). IsSeatOf g.J.Case.before b.run (record { worker = s.worker; out = s.out; tally = s.tally.items; lent = loan_of s.slip.mine })) c.self.view_is is)

pub returns-clause-out : goal.returns-clause-out
returns-clause-out g c = λ claim mine. seat-out g.J.Case.before c.args.self.now.run c.args.seat.now claim (returns-clause-agrees g c) mine

pub returns-clause-replay : goal.returns-clause-replay
returns-clause-replay g c =
    let h = c.self.inside in
    let here : IsReplay g.J.Case.problem h.board.run = subst (λ p. IsReplay p h.board.run) c.self.invariant.0 c.history-known.ensures.replay in
    subst (λ (b : BoardValue _). IsReplay g.J.Case.problem b.run) c.self.view_is here

pub returns-clause-problem : goal.returns-clause-problem
returns-clause-problem g c = subst IsProblem c.self.invariant.0 c.history-known.ensures.problem

pub returns-clause-lent : goal.returns-clause-lent
returns-clause-lent g c = λ out.
    let s = c.seat.inside in
    let h = c.self.inside in
    let agrees = c.agree.ensures.agrees ∙ ap (λ w. of_worker w h.roll) c.seat.invariant.0 in
    let mine : IsSome s.out = subst (λ (v : SeatValue). IsSome v.out) (sym c.seat.view_is) out in
    let claim = seat-claim g.J.Case.before h.board.run h.roll s.worker s.out s.tally.items s.slip.mine c.self.invariant.1 c.seat.invariant.1 agrees in
    let is_out : IsSome (claim_of s.worker h.board.run.state.claims) = subst (λ (o : Option ClaimOut). IsSome o) claim mine in
    let here : loan_of s.slip.mine ≡ lent_to g.J.Case.problem g.J.Case.first h.board.run.history s.worker = ap loan_of agrees ∙ c.self.invariant.3 s.worker is_out in
    subst (λ (v : SeatValue). v.lent ≡ lent_to g.J.Case.problem g.J.Case.first c.args.self.now.run.history v.worker) c.seat.view_is
    (subst (λ (b : BoardValue _). loan_of s.slip.mine ≡ lent_to g.J.Case.problem g.J.Case.first b.run.history s.worker) c.self.view_is here)
