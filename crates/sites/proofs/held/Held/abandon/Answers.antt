use Rattle.std.proofs.Common.{◌≡◌, [], sym, ap, ◌∙◌, subst}
use Rattle.board.specs.Board.{BoardValue}
use Rattle.board.specs.Claim.{IsOut}
use Rattle.board.specs.Leaving.{LeaveTheSame}
use Rattle.sites.specs.Seats.{SeatValue, IsBook, AreLoans}
use Rattle.sites.proofs.BookLemmas.{held-abandon, loans-abandon}
use Rattle.sites.proofs.held.Held.abandon.Goals as goal

pub invariant_of-self : goal.invariant_of-self
invariant_of-self g c =
    let h = c.self.inside in
    let claim = c.args.claim in
    let worker = c.seat.inside.slip.worker in
    let mine = c.agree.ensures.out claim c.requires.mine in
    let is_out : IsOut h.board.run.state claim = subst (λ (v : BoardValue _). IsOut v.run.state claim) (sym (c.self.view_is ∙ c.agree.ensures.same.0)) mine.0 in
    let who : claim.worker ≡ worker = mine.1 ∙ sym (c.seat.invariant.0 ∙ ap (λ (s : SeatValue). s.worker) (c.seat.view_is ∙ c.agree.ensures.same.1)) in
    let kept = held-abandon g.E.Executor.out g.J.Case.before g.J.Case.problem h.board c.abandon.new.self h.roll worker claim [] c.self.invariant.0 c.self.invariant.1 is_out who (c.abandon.ensures.out is_out) in
    let step = c.abandon.ensures.out is_out in
    let loans = loans-abandon g.E.Executor.out g.J.Case.problem g.J.Case.first h.board c.abandon.new.self h.roll worker claim.worker [] c.self.invariant.0 c.self.invariant.3 who step in (
      kept.0,
      subst (λ roll. IsBook g.J.Case.before roll c.abandon.new.self.run) (sym c.write.ensures.roll) kept.1,
      step.first ∙ c.self.invariant.2,
      subst (λ roll. AreLoans g.J.Case.problem g.J.Case.first roll c.abandon.new.self.run) (sym c.write.ensures.roll) loans,
      (λ promised. subst (λ job. LeaveTheSame (g.E.Executor.leaves job.executor) g.J.Case.leaves) (sym step.job) (c.self.invariant.4 promised)),
      (λ promised. c.abandon.ensures.left (c.self.invariant.5 promised)),
    )
