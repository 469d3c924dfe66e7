use Rattle.std.proofs.Common.{subst}
use Rattle.board.specs.Board.{BoardValue}
use Rattle.board.specs.Play.{IsReplay}
use Rattle.board.specs.Problem.{IsProblem}
use Rattle.sites.specs.PrivateSeats.{SettledBelow}
use Rattle.sites.proofs.TallyLemmas.{of-given}
use Rattle.sites.proofs.held.Held.complete.Goals as goal

pub returns-clause-since : goal.returns-clause-since
returns-clause-since g c =
    let h = c.self.inside in
    let before = g.J.Case.before in
    subst (λ (b : BoardValue _). SettledBelow c.args.giver.now before b.run.history) c.self.view_is (of-given before c.args.giver.now h.roll h.board.run c.self.invariant.1 c.complete.ensures.none)

pub returns-clause-replay : goal.returns-clause-replay
returns-clause-replay g c =
    let h = c.self.inside in
    let here : IsReplay g.J.Case.problem h.board.run = subst (λ p. IsReplay p h.board.run) c.self.invariant.0 c.history-known.ensures.replay in
    subst (λ (b : BoardValue _). IsReplay g.J.Case.problem b.run) c.self.view_is here

pub returns-clause-problem : goal.returns-clause-problem
returns-clause-problem g c = subst IsProblem c.self.invariant.0 c.history-known.ensures.problem
