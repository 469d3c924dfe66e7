-- Each claim that `follow` keeps has the trees that its worker was lent with it: nobody else is lent trees under the worker's number.
use Rattle.std.proofs.Common.{◌≡◌, ◌≢◌, ℕ, zero, suc, ◌==◌, Bool, true, false, true≢false, List, [], ◌∷◌, ◌++◌, map, Some, None, refl, sym, ap, ◌∙◌, subst}
use Rattle.std.specs.Prelude.{slice_get}
use Rattle.std.specs.List.{remove}
use Rattle.std.proofs.lemmas.Bool.{eq-eqb}
use Rattle.plans.specs.Plan.{Problem}
use Rattle.cachemounts.specs.declared.content.Content.{Content}
use Rattle.board.specs.Play.{Run, Step, Claim, worker_of, claim_of, without, claimable, go}
use Rattle.board.specs.Claim.{ClaimValue, claim_out}
use Rattle.board.specs.Leaving.{IsLent}
use Rattle.board.specs.PrivateClaim.{AreApart}
use Rattle.board.proofs.ListLemmas.{claim_of-without}
use Rattle.board.proofs.StepLemmas.{claim-free}
use Rattle.board.proofs.LeavingLemmas.{lent-other}
use Rattle.board.specs.declared.event.Happened.{Happened}
use Rattle.replay.specs.PrivateFollowing.{AreOut, AreLent, IsTaken}
use Rattle.replay.proofs.FollowLemmas.{placed-without}

AreLent-push : (problem : Problem) (first : List Content) (history : List Happened) (kept : List ClaimValue) (claim : ClaimValue) → AreLent problem first history kept → IsLent problem first history claim → AreLent problem first history (kept ++ claim ∷ [])
AreLent-push problem first history [] claim each lent = (lent, tt)
AreLent-push problem first history (other ∷ kept) claim each lent = (each.0, AreLent-push problem first history kept claim each.1 lent)

AreLent-remove : (problem : Problem) (first : List Content) (history : List Happened) (kept : List ClaimValue) (index : ℕ) → AreLent problem first history kept → AreLent problem first history (remove kept index)
AreLent-remove problem first history [] zero each = tt
AreLent-remove problem first history [] (suc index) each = tt
AreLent-remove problem first history (other ∷ kept) zero each = each.1
AreLent-remove problem first history (other ∷ kept) (suc index) each = (each.0, AreLent-remove problem first history kept index each.1)

AreLent-at : (problem : Problem) (first : List Content) (history : List Happened) (kept : List ClaimValue) (index : ℕ) (claim : ClaimValue) → AreLent problem first history kept → slice_get kept index ≡ Some claim → IsLent problem first history claim
AreLent-at problem first history [] index claim each e = cc
AreLent-at problem first history (other ∷ kept) zero claim each e = (let same : other ≡ claim = cc in subst (IsLent problem first history) same each.0)
AreLent-at problem first history (other ∷ kept) (suc index) claim each e = AreLent-at problem first history kept index claim each.1 e

-- a step of a worker of whom no claim is kept
lent-kept : (problem : Problem) (first : List Content) (run : Run) (step : Step) (kept : List ClaimValue) → claim_of (worker_of step) (map claim_out kept) ≡ None → AreLent problem first run.history kept → AreLent problem first (go problem run step).history kept
lent-kept problem first run step [] none each = tt
lent-kept problem first run step (claim ∷ kept) none each = by_test (lent-kept problem first run step kept) (claim.worker == worker_of step) refl
  where
    by_test : (claim_of (worker_of step) (map claim_out kept) ≡ None → AreLent problem first run.history kept → AreLent problem first (go problem run step).history kept)
        → (b : Bool) → (claim.worker == worker_of step) ≡ b → AreLent problem first (go problem run step).history (claim ∷ kept)
    by_test rest true t = (let f : Some (claim_out claim) ≡ None = rw t at none in cc)
    by_test rest false t =
        let apart : worker_of step ≢ claim.worker = λ same. true≢false (sym (eq-eqb claim.worker (worker_of step) (sym same)) ∙ t) in
        let others : claim_of (worker_of step) (map claim_out kept) ≡ None = rw t at none in
        (each.0 ∙ sym (lent-other problem first run step claim.worker apart), rest others each.1)

-- one claim more, as the board gave it
pub claim-lent : (problem : Problem) (first later : List Content) (run now : Run) (kept more : List ClaimValue) (worker : ℕ) (claim : ClaimValue) → AreOut problem run.state.claims kept → AreLent problem first run.history kept → now ≡ go problem run (Claim worker) → later ≡ first → claimable problem run.state worker ≡ Some claim.vertex → IsLent problem later now.history claim → more ≡ kept ++ claim ∷ [] → AreLent problem later now.history more
claim-lent problem first later run now kept more worker claim is each e same can lent added =
    let none : claim_of worker (map claim_out kept) ≡ None = ap (claim_of worker) (sym is.all) ∙ claim-free problem run.state worker claim.vertex can in
    let others : AreLent problem first now.history kept = subst (λ r. AreLent problem first r.history kept) (sym e) (lent-kept problem first run (Claim worker) kept none each) in
    subst (AreLent problem later now.history) (sym added) (AreLent-push problem later now.history kept claim (subst (λ f. AreLent problem f now.history kept) (sym same) others) lent)

pub taken-lent : (problem : Problem) (first : List Content) (history : List Happened) (worker : ℕ) (before after : List ClaimValue) (claim : ClaimValue) → AreLent problem first history before → IsTaken worker before after claim → IsLent problem first history claim
taken-lent problem first history worker before after claim each taken = AreLent-at problem first history before taken.at claim each taken.there

-- one claim fewer, after its end
pub fewer-lent : (problem : Problem) (first later : List Content) (run now : Run) (step : Step) (worker : ℕ) (before after : List ClaimValue) (claim : ClaimValue) → AreOut problem run.state.claims before → AreLent problem first run.history before → IsTaken worker before after claim → worker_of step ≡ claim.worker → now ≡ go problem run step → later ≡ first → AreLent problem later now.history after
fewer-lent problem first later run now step worker before after claim is each taken by e same =
    let kept : AreLent problem first run.history after = subst (AreLent problem first run.history) (sym taken.left) (AreLent-remove problem first run.history before taken.at each) in
    let apart : AreApart (map claim_out before) = subst AreApart is.all is.apart in
    let others : map claim_out after ≡ without worker (map claim_out before) = ap (map claim_out) taken.left ∙ placed-without worker taken.at before claim apart taken.there taken.by in
    let gone : claim_of worker (map claim_out after) ≡ None = ap (claim_of worker) others ∙ (claim_of-without worker worker (map claim_out before) ∙ rw (eq-eqb worker worker refl) refl) in
    let none : claim_of (worker_of step) (map claim_out after) ≡ None = subst (λ w. claim_of w (map claim_out after) ≡ None) (sym (by ∙ taken.by)) gone in
    subst (λ f. AreLent problem f now.history after) (sym same) (subst (λ r. AreLent problem first r.history after) (sym e) (lent-kept problem first run step after none kept))
