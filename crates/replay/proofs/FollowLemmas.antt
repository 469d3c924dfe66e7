-- The claims that `follow` keeps stay those that are out, and the history is what the rules leave.
use Rattle.std.proofs.Common.{◌≡◌, ℕ, zero, suc, ◌+◌, ◌<◌, ◌==◌, Bool, true, false, inl, inr, ◌⊎◌, ◌≢◌, List, [], ◌∷◌, ◌++◌, length, map, take, Option, Some, None, refl, sym, ap, ◌∙◌, subst}
use Rattle.std.specs.Prelude.{slice_get}
use Rattle.std.specs.List.{remove, slice_index_or}
use Rattle.std.proofs.lemmas.Option.{get_or_from_slice_get}
use Rattle.std.proofs.lemmas.List.{take_more}
use Rattle.std.proofs.lemmas.Bool.{eqb-true, eq-eqb, cases_order}
use Rattle.trees.specs.TreeMap.{TreeMap}
use Rattle.plans.specs.Plan.{Problem}
use Rattle.board.specs.Problem.{IsProblem}
use Rattle.board.specs.Play.{Run, Step, Claim, Settle, Abandon, Move, step_of, claim_of, without, claimable, next, moved, go, IsReplay}
use Rattle.board.specs.Claim.{ClaimValue, IsClaim, IsOut, IsGivenBack, claim_out}
use Rattle.replay.specs.PrivateFollowing.{AreClaims, AreOut, IsAt, IsTaken, Applies, event_of_step}
use Rattle.board.proofs.ListLemmas.{AreApart-push, AreApart-without, claim_of-push}
use Rattle.board.specs.Play.{vertex_of}
use Rattle.board.specs.PrivateClaim.{AreApart}
use Rattle.board.proofs.StepLemmas.{claim-free, next-some, next-none}
use Rattle.board.proofs.SoundLemmas.{sound, next_claim-is}
use Rattle.board.proofs.PlayLemmas.{replay-right}
use Rattle.board.specs.Legal.{Possible, event_of, vertex_out, PlaysOn, Plays, IsNextClaim, IsReady}
use Rattle.board.specs.declared.event.Event.{Event}
use Rattle.board.specs.declared.event.Event.TheVariants as event
use Rattle.board.specs.declared.event.Happened.{Happened}
use Rattle.board.specs.declared.event.Happened.TheVariants.{Claimed, Settled, Abandoned}
use Rattle.board.specs.declared.claim.ClaimOut.{ClaimOut}

without-none : (worker : ℕ) (claims : List ClaimOut) → claim_of worker claims ≡ None → without worker claims ≡ claims
without-none worker [] e = refl
without-none worker (first ∷ claims) e = by_test (without-none worker claims) (first.worker == worker) refl
  where
    by_test : (claim_of worker claims ≡ None → without worker claims ≡ claims) → (b : Bool) → (first.worker == worker) ≡ b → without worker (first ∷ claims) ≡ first ∷ claims
    by_test rest true t = (let f : Some first ≡ None = rw t at e in cc)
    by_test rest false t =
        let f : claim_of worker claims ≡ None = rw t at e in
        rw t (ap (λ cs. first ∷ cs) (rest f))

-- a worker's claim that is kept is the one that is out
pub placed-out : (worker index : ℕ) (kept : List ClaimValue) (claim : ClaimValue) → AreApart (map claim_out kept) → slice_get kept index ≡ Some claim → claim.worker ≡ worker → claim_of worker (map claim_out kept) ≡ Some (claim_out claim)
placed-out worker index [] claim apart there by = cc
placed-out worker zero (first ∷ kept) claim apart there by =
    let same : first ≡ claim = cc in
    let t : (first.worker == worker) ≡ true = eq-eqb first.worker worker (ap (λ c. c.worker) same ∙ by) in
    rw t (ap (λ c. Some (claim_out c)) same)
placed-out worker (suc index) (first ∷ kept) claim apart there by = by_test (placed-out worker index kept claim apart.1 there by) (first.worker == worker) refl
  where
    by_test : claim_of worker (map claim_out kept) ≡ Some (claim_out claim) → (b : Bool) → (first.worker == worker) ≡ b → claim_of worker (map claim_out (first ∷ kept)) ≡ Some (claim_out claim)
    by_test rest true t =
        let same : first.worker ≡ worker = eqb-true first.worker worker t in
        let none : claim_of worker (map claim_out kept) ≡ None = rw (← same) apart.0 in
        let f : None ≡ Some (claim_out claim) = sym none ∙ rest in
        cc
    by_test rest false t = rw t rest

-- without that claim those of the other workers are kept
pub placed-without : (worker index : ℕ) (kept : List ClaimValue) (claim : ClaimValue) → AreApart (map claim_out kept) → slice_get kept index ≡ Some claim → claim.worker ≡ worker → map claim_out (remove kept index) ≡ without worker (map claim_out kept)
placed-without worker index [] claim apart there by = cc
placed-without worker zero (first ∷ kept) claim apart there by =
    let same : first ≡ claim = cc in
    let here : first.worker ≡ worker = ap (λ c. c.worker) same ∙ by in
    let t : (first.worker == worker) ≡ true = eq-eqb first.worker worker here in
    let none : claim_of worker (map claim_out kept) ≡ None = rw (← here) apart.0 in
    rw t (sym (without-none worker (map claim_out kept) none))
placed-without worker (suc index) (first ∷ kept) claim apart there by = by_test (placed-without worker index kept claim apart.1 there by) (placed-out worker index kept claim apart.1 there by) (first.worker == worker) refl
  where
    by_test : map claim_out (remove kept index) ≡ without worker (map claim_out kept) → claim_of worker (map claim_out kept) ≡ Some (claim_out claim) → (b : Bool) → (first.worker == worker) ≡ b → map claim_out (remove (first ∷ kept) (suc index)) ≡ without worker (map claim_out (first ∷ kept))
    by_test rest out true t =
        let same : first.worker ≡ worker = eqb-true first.worker worker t in
        let none : claim_of worker (map claim_out kept) ≡ None = rw (← same) apart.0 in
        let f : None ≡ Some (claim_out claim) = sym none ∙ out in
        cc
    by_test rest out false t = rw t (ap (λ cs. claim_out first ∷ cs) rest)

pub AreClaims-push : (problem : Problem) (kept : List ClaimValue) (claim : ClaimValue) → AreClaims problem kept → IsClaim problem claim → AreClaims problem (kept ++ claim ∷ [])
AreClaims-push problem [] claim each is = (is, tt)
AreClaims-push problem (first ∷ kept) claim each is = (each.0, AreClaims-push problem kept claim each.1 is)

pub AreClaims-remove : (problem : Problem) (kept : List ClaimValue) (index : ℕ) → AreClaims problem kept → AreClaims problem (remove kept index)
AreClaims-remove problem [] zero each = tt
AreClaims-remove problem [] (suc index) each = tt
AreClaims-remove problem (first ∷ kept) zero each = each.1
AreClaims-remove problem (first ∷ kept) (suc index) each = (each.0, AreClaims-remove problem kept index each.1)

pub AreClaims-at : (problem : Problem) (kept : List ClaimValue) (index : ℕ) (claim : ClaimValue) → AreClaims problem kept → slice_get kept index ≡ Some claim → IsClaim problem claim
AreClaims-at problem [] index claim each e = cc
AreClaims-at problem (first ∷ kept) zero claim each e = (let same : first ≡ claim = cc in rw (← same) each.0)
AreClaims-at problem (first ∷ kept) (suc index) claim each e = AreClaims-at problem kept index claim each.1 e

pub map-out-push : (kept : List ClaimValue) (claim : ClaimValue) → map claim_out (kept ++ claim ∷ []) ≡ map claim_out kept ++ claim_out claim ∷ []
map-out-push [] claim = refl
map-out-push (first ∷ kept) claim = ap (λ cs. claim_out first ∷ cs) (map-out-push kept claim)

-- the vertex that a worker may claim by the rules is the one that the machine gives it
pub next-claimable : (problem : Problem) (run : Run) (worker vertex : ℕ) → IsProblem problem → IsReplay problem run → IsNextClaim problem run.history worker (Some vertex) → claimable problem run.state worker ≡ Some vertex
next-claimable problem run worker vertex is replay next = by_claim (claimable problem run.state worker) refl
  where
    by_order : (other : ℕ) → IsNextClaim problem run.history worker (Some other) → (other ≡ vertex) ⊎ ((other < vertex) ⊎ (vertex < other)) → Some other ≡ Some vertex
    by_order other found (inl same) = ap Some same
    by_order other found (inr (inl lower)) = absurd (next.least other lower found.ready)
    by_order other found (inr (inr higher)) = absurd (found.least vertex higher next.ready)

    refuted : ((vertex_out run.history worker ≢ None) ⊎ ((other : ℕ) → ¬ IsReady problem run.history other)) → ⊥
    refuted (inl busy) = busy next.idle
    refuted (inr none) = none vertex next.ready

    by_claim : (o : Option ℕ) → claimable problem run.state worker ≡ o → claimable problem run.state worker ≡ Some vertex
    by_claim None e = absurd (refuted (next_claim-is problem run worker None is replay (sym e)))
    by_claim (Some other) e = e ∙ by_order other (next_claim-is problem run worker (Some other) is replay (sym e)) (cases_order other vertex)

-- one claim more, as the board gave it
pub kept-claim : (problem : Problem) (run now : Run) (kept : List ClaimValue) (worker : ℕ) (claim : ClaimValue) → AreOut problem run.state.claims kept → now ≡ go problem run (Claim worker) → claimable problem run.state worker ≡ Some claim.vertex → claim.worker ≡ worker → IsOut now.state claim → IsClaim problem claim → AreOut problem now.state.claims (kept ++ claim ∷ [])
kept-claim problem run now kept worker claim is e can by out of =
    let free : claim_of worker run.state.claims ≡ None = claim-free problem run.state worker claim.vertex can in
    let goes : now.state.claims ≡ run.state.claims ++ new ∷ [] = ap (λ r. r.state.claims) e ∙ rw can refl in
    let found : Some new ≡ Some (claim_out claim) = sym (claim_of-push worker run.state.claims new free ∙ rw (eq-eqb worker worker refl) refl) ∙ (ap (claim_of worker) (sym goes) ∙ (ap (λ w. claim_of w now.state.claims) (sym by) ∙ out)) in
    let same : new ≡ claim_out claim = cc in
    record {
      all = goes ∙ (ap (λ h. run.state.claims ++ h ∷ []) same ∙ (ap (λ cs. cs ++ claim_out claim ∷ []) is.all ∙ sym (map-out-push kept claim)));
      each = AreClaims-push problem kept claim is.each of;
      apart = subst AreApart (sym goes) (AreApart-push run.state.claims new is.apart free);
    }
  where
    new : ClaimOut
    new = record { worker = worker; vertex = claim.vertex; at = length run.history }

pub kept-out : (problem : Problem) (claims : List ClaimOut) (kept : List ClaimValue) (worker index : ℕ) (claim : ClaimValue) → AreOut problem claims kept → slice_get kept index ≡ Some claim → claim.worker ≡ worker → claim_of worker claims ≡ Some (claim_out claim)
kept-out problem claims kept worker index claim is there by =
    ap (claim_of worker) is.all ∙ placed-out worker index kept claim (subst AreApart is.all is.apart) there by

fewer-kept : (problem : Problem) (claims : List ClaimOut) (kept : List ClaimValue) (worker index : ℕ) (claim : ClaimValue) → AreOut problem claims kept → slice_get kept index ≡ Some claim → claim.worker ≡ worker → AreOut problem (without worker claims) (remove kept index)
fewer-kept problem claims kept worker index claim is there by = record {
  all = ap (without worker) is.all ∙ sym (placed-without worker index kept claim (subst AreApart is.all is.apart) there by);
  each = AreClaims-remove problem kept index is.each;
  apart = AreApart-without worker claims is.apart;
}

-- what is at the position of a worker's claim was taken
pub taken-at : (worker index : ℕ) (before after : List ClaimValue) (claim : ClaimValue) → IsAt before worker index → claim ≡ slice_index_or before index claim → after ≡ remove before index → IsTaken worker before after claim
taken-at worker index before after claim placed e left =
    let same : placed.claim ≡ claim = sym (get_or_from_slice_get before index placed.claim claim placed.there) ∙ sym e in
    record { at = index; there = placed.there ∙ ap Some same; by = sym (ap (λ c. c.worker) same) ∙ placed.by; left = left }

pub taken-out : (problem : Problem) (claims : List ClaimOut) (worker : ℕ) (before after : List ClaimValue) (claim : ClaimValue) → AreOut problem claims before → IsTaken worker before after claim → claim_of claim.worker claims ≡ Some (claim_out claim)
taken-out problem claims worker before after claim is taken = ap (λ w. claim_of w claims) taken.by ∙ kept-out problem claims before worker taken.at claim is taken.there taken.by

pub taken-is : (problem : Problem) (claims : List ClaimOut) (worker : ℕ) (before after : List ClaimValue) (claim : ClaimValue) → AreOut problem claims before → IsTaken worker before after claim → IsClaim problem claim
taken-is problem claims worker before after claim is taken = AreClaims-at problem before taken.at claim is.each taken.there

-- one claim fewer, where it is settled or abandoned
pub taken-settle : (problem : Problem) (run now : Run) (worker : ℕ) (given : List TreeMap) (before after : List ClaimValue) (claim : ClaimValue) → AreOut problem run.state.claims before → IsTaken worker before after claim → IsGivenBack problem claim given → now ≡ go problem run (Settle claim.worker given) → AreOut problem now.state.claims after
taken-settle problem run now worker given before after claim is taken count e =
    let out = taken-out problem run.state.claims worker before after claim is taken in
    let claims : now.state.claims ≡ without worker run.state.claims = ap (λ r. r.state.claims) e ∙ (rw (out, eq-eqb _ _ count) (ap (λ w. without w run.state.claims) taken.by)) in
    let kept = fewer-kept problem run.state.claims before worker taken.at claim is taken.there taken.by in
    subst (λ cs. AreOut problem cs after) (sym claims) (subst (λ d. AreOut problem (without worker run.state.claims) d) (sym taken.left) kept)

pub taken-abandon : (problem : Problem) (run now : Run) (worker : ℕ) (before after : List ClaimValue) (claim : ClaimValue) → AreOut problem run.state.claims before → IsTaken worker before after claim → now ≡ go problem run (Abandon claim.worker) → AreOut problem now.state.claims after
taken-abandon problem run now worker before after claim is taken e =
    let out = taken-out problem run.state.claims worker before after claim is taken in
    let claims : now.state.claims ≡ without worker run.state.claims = ap (λ r. r.state.claims) e ∙ (rw out (ap (λ w. without w run.state.claims) taken.by)) in
    let kept = fewer-kept problem run.state.claims before worker taken.at claim is taken.there taken.by in
    subst (λ cs. AreOut problem cs after) (sym claims) (subst (λ d. AreOut problem (without worker run.state.claims) d) (sym taken.left) kept)

-- one event more of what a list of events leaves
pub PlaysOn-push : (problem : Problem) (before middle after : List Happened) (events : List Event) (event : Event) → PlaysOn problem before events middle → Applies problem event middle after → PlaysOn problem before (events ++ event ∷ []) after
PlaysOn-push problem before middle after [] event plays (inl here) = inl (here.0, here.1, subst (λ h. Possible problem h here.0) plays here.2, here.3 ∙ ap (λ h. h ++ here.0 ∷ []) plays)
PlaysOn-push problem before middle after [] event plays (inr here) = inr ((λ happened e possible. here.0 happened e (subst (λ h. Possible problem h happened) (sym plays) possible)), here.1 ∙ plays)
PlaysOn-push problem before middle after (first ∷ events) event (inl plays) applies = inl (plays.0, plays.1, plays.2, PlaysOn-push problem (before ++ plays.0 ∷ []) middle after events event plays.3 applies)
PlaysOn-push problem before middle after (first ∷ events) event (inr plays) applies = inr (plays.0, PlaysOn-push problem before middle after events event plays.1 applies)

-- a step that brings no trees is an event
applied : (problem : Problem) (run : Run) (step : Step) → IsProblem problem → IsReplay problem run → ((happened : Happened) → event_of happened ≡ event_of_step step → step_of happened ≡ step) → Applies problem (event_of_step step) run.history (go problem run step).history
applied problem run step plan replay asks = by_move (next problem run step) refl
  where
    asked : (happened : Happened) → step_of happened ≡ step → event_of happened ≡ event_of_step step
    asked (Claimed worker vertex) e = ap event_of_step e
    asked (Settled worker vertex given) e = ap event_of_step e
    asked (Abandoned worker vertex) e = ap event_of_step e

    by_move : (o : Option Move) → next problem run step ≡ o → Applies problem (event_of_step step) run.history (moved run o).history
    by_move None e = inr ((λ happened f. next-none problem run step (replay-right problem run (sound problem plan) replay).agrees e happened (asks happened f)), refl)
    by_move (Some move) e =
        let m = next-some problem run step move (sound problem plan) (replay-right problem run (sound problem plan) replay).agrees e in
        inl (move.happened, asked move.happened m.asked, m.possible, refl)

claim_asks : (worker : ℕ) (happened : Happened) → event_of happened ≡ event.Claim worker → step_of happened ≡ Claim worker
claim_asks worker (Claimed by vertex) e = (let same : by ≡ worker = cc in ap Claim same)
claim_asks worker (Settled by vertex given) e = cc
claim_asks worker (Abandoned by vertex) e = cc

abandon_asks : (worker : ℕ) (happened : Happened) → event_of happened ≡ event.Abandon worker → step_of happened ≡ Abandon worker
abandon_asks worker (Claimed by vertex) e = cc
abandon_asks worker (Settled by vertex given) e = cc
abandon_asks worker (Abandoned by vertex) e = (let same : by ≡ worker = cc in ap Abandon same)

pub claim-applies : (problem : Problem) (run now : Run) (worker : ℕ) → IsProblem problem → IsReplay problem run → now ≡ go problem run (Claim worker) → Applies problem (event.Claim worker) run.history now.history
claim-applies problem run now worker plan replay e = subst (λ r. Applies problem (event.Claim worker) run.history r.history) (sym e) (applied problem run (Claim worker) plan replay (claim_asks worker))

pub abandon-applies : (problem : Problem) (run now : Run) (worker : ℕ) → IsProblem problem → IsReplay problem run → now ≡ go problem run (Abandon worker) → Applies problem (event.Abandon worker) run.history now.history
abandon-applies problem run now worker plan replay e = subst (λ r. Applies problem (event.Abandon worker) run.history r.history) (sym e) (applied problem run (Abandon worker) plan replay (abandon_asks worker))

-- a settle of a claim that is out, with as many trees as its vertex uses caches, happens
pub settle-applies : (problem : Problem) (run now : Run) (claim : ClaimValue) (given : List TreeMap) → IsProblem problem → IsReplay problem run → IsOut run.state claim → IsGivenBack problem claim given → now ≡ go problem run (Settle claim.worker given) → Applies problem (event.Settle claim.worker) run.history now.history
settle-applies problem run now claim given plan replay out count e =
    let holds : vertex_out run.history claim.worker ≡ Some claim.vertex = sym ((replay-right problem run (sound problem plan) replay).agrees.claims claim.worker) ∙ ap vertex_of out in
    let history : now.history ≡ run.history ++ Settled claim.worker claim.vertex given ∷ [] = ap (λ r. r.history) e ∙ rw (out, eq-eqb _ _ count) refl in
    inl (Settled claim.worker claim.vertex given, refl, (holds, count), history)

-- a settle or an abandon of a worker that has no claim out is left out
pub settle-left_out : (problem : Problem) (run : Run) (worker : ℕ) → IsProblem problem → IsReplay problem run → claim_of worker run.state.claims ≡ None → Applies problem (event.Settle worker) run.history run.history
settle-left_out problem run worker plan replay none = inr (refuse, refl)
  where
    free : vertex_out run.history worker ≡ None
    free = sym ((replay-right problem run (sound problem plan) replay).agrees.claims worker) ∙ ap vertex_of none

    refuse : (happened : Happened) → event_of happened ≡ event.Settle worker → ¬ Possible problem run.history happened
    refuse (Claimed by vertex) e possible = cc
    refuse (Settled by vertex given) e possible =
        let same : by ≡ worker = cc in
        let f : None ≡ Some vertex = sym free ∙ (ap (vertex_out run.history) (sym same) ∙ possible.0) in
        cc
    refuse (Abandoned by vertex) e possible = cc

pub abandon-left_out : (problem : Problem) (run : Run) (worker : ℕ) → IsProblem problem → IsReplay problem run → claim_of worker run.state.claims ≡ None → Applies problem (event.Abandon worker) run.history run.history
abandon-left_out problem run worker plan replay none = inr (refuse, refl)
  where
    free : vertex_out run.history worker ≡ None
    free = sym ((replay-right problem run (sound problem plan) replay).agrees.claims worker) ∙ ap vertex_of none

    refuse : (happened : Happened) → event_of happened ≡ event.Abandon worker → ¬ Possible problem run.history happened
    refuse (Claimed by vertex) e possible = cc
    refuse (Settled by vertex given) e possible = cc
    refuse (Abandoned by vertex) e possible =
        let same : by ≡ worker = cc in
        let f : None ≡ Some vertex = sym free ∙ (ap (vertex_out run.history) (sym same) ∙ possible) in
        cc

pub plays-more : (problem here : Problem) (events : List Event) (k : ℕ) (other : Event) (old new : List Happened) → k < length events → here ≡ problem → Plays problem (take k events) old → Applies here (slice_index_or events k other) old new → Plays problem (take (k + 1) events) new
plays-more problem here events k other old new l same plays applies =
    subst (λ es. Plays problem es new) (sym (take_more events k other l)) (PlaysOn-push problem [] old new (take k events) (slice_index_or events k other) plays (subst (λ p. Applies p (slice_index_or events k other) old new) same applies))
