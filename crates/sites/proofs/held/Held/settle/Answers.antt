use Rattle.std.proofs.Common.{◌≡◌, true, [], ◌∷◌, ◌++◌, sym, ap, ◌∙◌, refl, subst}
use Rattle.std.specs.Prelude.{IsSome}
use Rattle.rolls.specs.declared.note.Note.TheVariants as note
use Rattle.board.specs.Board.{BoardValue, board_problem}
use Rattle.board.specs.Leaving.{lent_to, IsLent, IsLeftFor, LeaveTheSame}
use Rattle.board.proofs.LeavingLemmas.{left-back}
use Rattle.board.specs.Claim.{IsOut}
use Rattle.sites.specs.Seats.{SeatValue, IsBook, AreLoans}
use Rattle.sites.proofs.BookLemmas.{told, held-settle, loans-settle}
use Rattle.sites.proofs.held.Held.settle.Goals as goal

pub invariant_of-self-2 : goal.invariant_of-self-2
invariant_of-self-2 g c =
    let h = c.self.inside in
    let problem = g.J.Case.problem in
    let before = g.J.Case.before in
    let claim = c.args.claim in
    let worker = c.seat.inside.slip.worker in
    let run = c.settle.new.self.run in
    let mine = c.agree.ensures.out claim c.requires.mine in
    let is_out : IsOut h.board.run.state claim = subst (λ (v : BoardValue _). IsOut v.run.state claim) (sym (c.self.view_is ∙ c.agree.ensures.same.0)) mine.0 in
    let who : claim.worker ≡ worker = mine.1 ∙ sym (c.seat.invariant.0 ∙ ap (λ (s : SeatValue). s.worker) (c.seat.view_is ∙ c.agree.ensures.same.1)) in
    let kept = held-settle g.E.Executor.out before problem h.board c.settle.new.self h.roll worker claim c.args.given.items [] c.self.invariant.0 c.self.invariant.1 is_out who c.requires.given c.in_ok-settle.ensures.run in
    let step = c.in_ok-settle.ensures.run in
    let loans = loans-settle g.E.Executor.out problem g.J.Case.first h.board c.settle.new.self h.roll worker claim.worker claim.vertex c.args.given.items [] c.self.invariant.0 c.self.invariant.3 who step in
    let named = subst (λ v. IsBook before (h.roll ++ (worker, told (note.Settled v) []) ∷ []) run) (sym (c.number.ensures ∙ c.vertex-vertex.ensures)) kept.1 in
    let loaned = subst (λ v. AreLoans problem g.J.Case.first (h.roll ++ (worker, told (note.Settled v) []) ∷ []) run) (sym (c.number.ensures ∙ c.vertex-vertex.ensures)) loans in (
      kept.0,
      subst (λ roll. IsBook before roll run) (sym c.write.ensures.roll) named,
      step.first ∙ c.self.invariant.2,
      subst (λ roll. AreLoans problem g.J.Case.first roll run) (sym c.write.ensures.roll) loaned,
      (λ promised. subst (λ job. LeaveTheSame (g.E.Executor.leaves job.executor) g.J.Case.leaves) (sym step.job) (c.self.invariant.4 promised)),
      (λ promised. c.in_ok-settle.ensures.left (is_lent promised) (is_left promised) (c.self.invariant.5 promised)),
    )
  where
    -- what a promising case asks holds of the board
    is_lent : g.J.Case.promises ≡ true → IsLent (board_problem g.E.Executor.out c.self.inside.board) c.self.inside.board.first c.self.inside.board.run.history c.args.claim
    is_lent promised =
        let h = c.self.inside in
        let problem = g.J.Case.problem in
        let claim = c.args.claim in
        let mine = c.agree.ensures.out claim c.requires.mine in
        let out : IsSome c.args.seat.now.out = rw c.requires.mine refl in
        let lent : claim.caches ≡ lent_to problem g.J.Case.first c.args.self.now.run.history claim.worker =
        (c.requires.left promised).0 ∙ (c.agree.ensures.lent out ∙ ap (lent_to problem g.J.Case.first c.args.self.now.run.history) (sym mine.1)) in
        let here : claim.caches ≡ lent_to problem g.J.Case.first h.board.run.history claim.worker =
        subst (λ (v : BoardValue _). claim.caches ≡ lent_to problem g.J.Case.first v.run.history claim.worker) (sym (c.self.view_is ∙ c.agree.ensures.same.0)) lent in
        here ∙ (ap (λ p. lent_to p g.J.Case.first h.board.run.history claim.worker) (sym c.self.invariant.0) ∙ ap (λ f. lent_to (board_problem g.E.Executor.out h.board) f h.board.run.history claim.worker) (sym c.self.invariant.2))

    is_left : g.J.Case.promises ≡ true → IsLeftFor (g.E.Executor.leaves c.self.inside.board.job.executor) (board_problem g.E.Executor.out c.self.inside.board) c.args.claim c.args.given.items
    is_left promised =
        let leaves = g.E.Executor.leaves c.self.inside.board.job.executor in
        let left = left-back leaves g.J.Case.leaves g.J.Case.problem c.args.claim c.args.given.items (c.self.invariant.4 promised) (c.requires.left promised).1 in
        subst (λ p. IsLeftFor leaves p c.args.claim c.args.given.items) (sym c.self.invariant.0) left
