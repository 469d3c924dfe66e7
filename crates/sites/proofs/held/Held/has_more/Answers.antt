use Rattle.std.proofs.Common.{ℕ, subst}
use Rattle.board.specs.Board.{BoardValue}
use Rattle.board.specs.Legal.{IsAvailable, IsReady}
use Rattle.sites.proofs.held.Held.has_more.Goals as goal

pub returns-clause-more : goal.returns-clause-more
returns-clause-more g c = λ yes.
    let h = c.self.inside in
    let here = subst (λ p. (vertex : ℕ) × IsAvailable p h.board.run.history vertex) c.self.invariant.0 (c.has_more.ensures.more yes) in
    subst (λ (b : BoardValue _). (vertex : ℕ) × IsAvailable g.J.Case.problem b.run.history vertex) c.self.view_is here

pub returns-clause-none : goal.returns-clause-none
returns-clause-none g c = λ no.
    let h = c.self.inside in
    let here = subst (λ p. (vertex : ℕ) → ¬ IsReady p h.board.run.history vertex) c.self.invariant.0 (c.has_more.ensures.none no) in
    subst (λ (b : BoardValue _). (vertex : ℕ) → ¬ IsReady g.J.Case.problem b.run.history vertex) c.self.view_is here
