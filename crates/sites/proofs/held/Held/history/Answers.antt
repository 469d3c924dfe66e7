use Rattle.std.proofs.Common.{subst}
use Rattle.board.specs.Board.{BoardValue, AreContents}
use Rattle.board.specs.Leaving.{GivesBackWhatIsLeft}
use Rattle.board.proofs.LeavingLemmas.{given-same}
use Rattle.board.specs.Play.{IsReplay}
use Rattle.board.specs.Problem.{IsProblem}
use Rattle.sites.specs.Seats.{GoesOnFrom}
use Rattle.sites.proofs.held.Held.history.Goals as goal

pub returns-clause-replay : goal.returns-clause-replay
returns-clause-replay g c =
    let h = c.self.inside in
    let here : IsReplay g.J.Case.problem h.board.run = subst (λ p. IsReplay p h.board.run) c.self.invariant.0 c.history.ensures.replay in
    subst (λ (b : BoardValue _). IsReplay g.J.Case.problem b.run) c.self.view_is here

pub returns-clause-problem : goal.returns-clause-problem
returns-clause-problem g c = subst IsProblem c.self.invariant.0 c.history.ensures.problem

pub returns-clause-contents : goal.returns-clause-contents
returns-clause-contents g c =
    let h = c.self.inside in
    let problem = g.J.Case.problem in
    let named = subst (λ p. AreContents p h.board.run.history h.board.first h.board.contents) c.self.invariant.0 c.history.ensures.contents in
    let here = subst (λ first. AreContents problem h.board.run.history first h.board.contents) c.self.invariant.2 named in
    subst (λ (b : BoardValue _). AreContents problem b.run.history g.J.Case.first b.contents) c.self.view_is here

pub returns-clause-given : goal.returns-clause-given
returns-clause-given g c = λ promised.
    let h = c.self.inside in
    let problem = g.J.Case.problem in
    let leaves = g.E.Executor.leaves h.board.job.executor in
    let named = subst (λ p. GivesBackWhatIsLeft leaves p h.board.first h.board.run.history) c.self.invariant.0 (c.self.invariant.5 promised) in
    let here = subst (λ first. GivesBackWhatIsLeft leaves problem first h.board.run.history) c.self.invariant.2 named in
    subst (λ (b : BoardValue _). GivesBackWhatIsLeft g.J.Case.leaves problem g.J.Case.first b.run.history) c.self.view_is
    (given-same leaves g.J.Case.leaves problem g.J.Case.first h.board.run.history (c.self.invariant.4 promised) here)

pub returns-clause-since : goal.returns-clause-since
returns-clause-since g c = subst (λ (b : BoardValue _). GoesOnFrom g.J.Case.before b.run.history) c.self.view_is c.self.invariant.1.since
