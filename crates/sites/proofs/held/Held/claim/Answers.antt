use Rattle.std.proofs.Common.{◌≡◌, ℕ, [], ◌∷◌, ◌++◌, sym, ap, ◌∙◌, subst}
use Rattle.std.specs.Prelude.{IfSome}
use Rattle.std.specs.Option.{option_map}
use Rattle.rolls.specs.declared.note.Note.TheVariants as note
use Rattle.board.specs.Board.{BoardValue, board_problem, IsStep}
use Rattle.board.specs.Leaving.{IsLent, lent_to, LeaveTheSame}
use Rattle.board.specs.Claim.{ClaimValue, IsOut}
use Rattle.board.specs.Legal.{IsNextClaim}
use Rattle.board.specs.Play.{Claim}
use Rattle.sites.specs.Seats.{SeatValue, IsBook, AreLoans}
use Rattle.sites.proofs.BookLemmas.{told, held-claim, loans-claim, tally-fresh}
use Rattle.sites.proofs.held.Held.claim.Goals as goal

pub invariant_of-self-2 : goal.invariant_of-self-2
invariant_of-self-2 g c =
    let h = c.self.inside in
    let claim = c.in-Some.claim in
    let ensured = c.in_ok-claimed.ensures in
    let problem = g.J.Case.problem in
    let first = g.J.Case.first in
    let now = c.claim.new.self in
    let run = now.run in
    let lent = c.caches.result.now in
    let is_out : IsOut run.state claim = subst (λ o. IfSome o (IsOut run.state)) c.in-Some.is ensured.out in
    let by : claim.worker ≡ c.worker.result = subst (λ o. IfSome o (λ (x : ClaimValue). x.worker ≡ c.worker.result)) c.in-Some.is ensured.worker in
    let step = subst (λ w. IsStep g.E.Executor.out (Claim w) h.board now) (sym by) ensured.run in
    let kept = held-claim g.E.Executor.out g.J.Case.before problem h.board now h.roll claim.worker claim.vertex claim.at lent c.self.invariant.0 c.self.invariant.1 step is_out in
    let begins : now.first ≡ first = ensured.run.first ∙ c.self.invariant.2 in
    let is_lent : IsLent (board_problem g.E.Executor.out now) now.first run.history claim = subst (λ o. IfSome o (IsLent (board_problem g.E.Executor.out now) now.first run.history)) c.in-Some.is ensured.lent in
    let loan : lent ≡ lent_to problem first run.history claim.worker = c.caches.ensures ∙ (is_lent ∙ (ap (λ p. lent_to p now.first run.history claim.worker) kept.0 ∙ ap (λ f. lent_to problem f run.history claim.worker) begins)) in
    let loans = loans-claim g.E.Executor.out problem first h.board now h.roll claim.worker claim.vertex claim.at lent c.self.invariant.0 c.self.invariant.3 step loan in
    let who : claim.worker ≡ c.seat.inside.slip.worker = by ∙ (c.worker.ensures ∙ sym (c.seat.invariant.0 ∙ ap (λ (s : SeatValue). s.worker) c.seat.view_is)) in
    let which : claim.vertex ≡ c.number.result = sym (c.number.ensures ∙ c.vertex-vertex.ensures) in
    let when : claim.at ≡ c.at-at.result = sym c.at-at.ensures in
    let named = subst (λ (t : ℕ × (ℕ × ℕ)). IsBook g.J.Case.before (h.roll ++ (t.0, told (note.Claimed t.1.0 t.1.1) lent) ∷ []) run) (λ i. (who i, (which i, when i))) kept.1 in
    let loaned = subst (λ (t : ℕ × (ℕ × ℕ)). AreLoans problem first (h.roll ++ (t.0, told (note.Claimed t.1.0 t.1.1) lent) ∷ []) run) (λ i. (who i, (which i, when i))) loans in (
      kept.0,
      subst (λ roll. IsBook g.J.Case.before roll run) (sym c.write.ensures.roll) named,
      begins,
      subst (λ roll. AreLoans problem first roll run) (sym c.write.ensures.roll) loaned,
      (λ promised. subst (λ job. LeaveTheSame (g.E.Executor.leaves job.executor) g.J.Case.leaves) (sym ensured.run.job) (c.self.invariant.4 promised)),
      (λ promised. ensured.left (c.self.invariant.5 promised)),
    )

pub returns-clause-fresh : goal.returns-clause-fresh
returns-clause-fresh g c =
    let h = c.self.inside in
    let problem = g.J.Case.problem in
    let same = c.agree.ensures.same in
    let claimed = option_map (λ (x : ClaimValue). x.vertex) c.in_ok-claimed.claimed in
    let named = subst (λ p. IsNextClaim p h.board.run.history c.worker.result claimed) c.self.invariant.0 c.in_ok-claimed.ensures.next in
    let here = subst (λ (v : BoardValue _). IsNextClaim problem v.run.history c.worker.result claimed) (c.self.view_is ∙ same.0) named in
    let mine = subst (λ w. IsNextClaim problem c.args.self.now.run.history w claimed) (c.worker.ensures ∙ ap (λ (s : SeatValue). s.worker) same.1) here in
    let given = subst (λ o. IsNextClaim problem c.args.self.now.run.history c.args.seat.now.worker (option_map (λ (x : ClaimValue). x.vertex) o)) c.in-Some.is mine in
    tally-fresh g.J.Case.before problem c.args.self.now.run c.args.seat.now c.in-Some.claim.vertex c.agree.ensures.agrees given
