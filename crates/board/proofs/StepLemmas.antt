-- Each move of the machine is possible by the rules, and leaves a state that agrees with the history; where it makes no move, nothing is possible.
use Rattle.std.proofs.Common.{◌≡◌, ◌≢◌, ℕ, ◌+◌, ◌≤◌, ◌==◌, Bool, true, false, ◌||◌, cond, ◌⊎◌, inl, inr, List, [], ◌∷◌, ◌++◌, length, Option, Some, None, is_some, refl, sym, ap, ◌∙◌, arith}
use Rattle.std.specs.Prelude.{slice_set, replicate}
use Rattle.std.specs.List.{list_any, slice_index_or, fold, count_by, sum_by}
use Rattle.std.specs.Option.{option_map}
use Rattle.std.proofs.lemmas.Bool.{cases_eq, cases_lt, eqb-true, eqb-false, eq-eqb, ne_eqb, or_parts, or_cases, or_right, both_ways, false_from_ne_true}
use Rattle.std.proofs.lemmas.List.Folds.{list_any-append}
use Rattle.std.proofs.lemmas.List.Sums.{fold-append, sum_by-append}
use Rattle.std.proofs.lemmas.List.{length-set, get_or-set_same, get_or-set_other, get_or-replicate, get_or_past, length-replicate}
use Rattle.std.proofs.Math.Bool.{or-false}
use Rattle.trees.specs.TreeMap.{TreeMap}
use Rattle.trees.specs.Cause.{TreeOrCause}
use Rattle.plans.specs.Plan.{Problem, vertex_value, uses_at}
use Rattle.cachemounts.specs.Holds.{new_holds, without_holder}
use Rattle.board.proofs.CacheLemmas.{AreHeld-begun, AreHeld-claim, AreHeld-end, held_caches-push}
use Rattle.board.specs.Play.{claim_giving, Run, State, Step, Claim, Settle, Abandon, Move, worker_of, step_of, claim_of, claimable, claim_move, settle_move, abandon_move, next, begun}
use Rattle.board.specs.Legal.{vertex_out, vertex_out_then, settles, IsReady, IsNext, Possible, IsSettledOnce}
use Rattle.board.proofs.ListLemmas.{AreApart-push, AreApart-without, claim_of-push, claim_of-without, claim_of-worker}
use Rattle.board.specs.Play.{vertex_of}
use Rattle.board.proofs.ReadyLemmas.{IsSound, IsPending, Agrees, claimable-some, claimable-none, ready-within}
use Rattle.board.specs.declared.event.Happened.{Happened}
use Rattle.board.specs.declared.event.Happened.TheVariants.{Claimed, Settled, Abandoned}
use Rattle.board.specs.declared.claim.ClaimOut.{ClaimOut}

pub held-push : (history : List Happened) (happened : Happened) (worker : ℕ) → vertex_out (history ++ happened ∷ []) worker ≡ vertex_out_then worker (vertex_out history worker) happened
held-push history happened worker = fold-append (vertex_out_then worker) None history (happened ∷ [])

pub settles-push : (history : List Happened) (happened : Happened) (vertex : ℕ) → list_any (settles vertex) (history ++ happened ∷ []) ≡ (list_any (settles vertex) history || settles vertex happened)
settles-push history happened vertex = list_any-append (settles vertex) history (happened ∷ []) ∙ ap (λ b. list_any (settles vertex) history || b) (or-false (settles vertex happened))

-- the rest of a state's agreement is as it was where something that isn't a settle happened
unsettling : (history : List Happened) (happened : Happened) (vertex : ℕ) → settles vertex happened ≡ false → list_any (settles vertex) (history ++ happened ∷ []) ≡ list_any (settles vertex) history
unsettling history happened vertex e = settles-push history happened vertex ∙ (rw e (or-false (list_any (settles vertex) history)))

count-push : (history : List Happened) (happened : Happened) (vertex : ℕ) → count_by (settles vertex) (history ++ happened ∷ []) ≡ count_by (settles vertex) history + cond (settles vertex happened) 1 0
count-push history happened vertex =
    let e = sum_by-append (λ x. cond (settles vertex x) 1 0) history (happened ∷ []) in
    let one : sum_by (λ x. cond (settles vertex x) 1 0) (happened ∷ []) ≡ cond (settles vertex happened) 1 0 = omega arith in
    e ∙ ap (λ n. count_by (settles vertex) history + n) one

count-none : (vertex : ℕ) (history : List Happened) → list_any (settles vertex) history ≡ false → count_by (settles vertex) history ≡ 0
count-none vertex history e = count_none_from vertex history 0 e ∙ refl
  where
    count_none_from : (vertex : ℕ) (history : List Happened) (n : ℕ) → list_any (settles vertex) history ≡ false → fold (λ a x. a + cond (settles vertex x) 1 0) n history ≡ n
    count_none_from vertex [] n e = refl
    count_none_from vertex (x ∷ xs) n e =
        let parts = or_parts (settles vertex x) (list_any (settles vertex) xs) e in
        let h = count_none_from vertex xs (n + cond (settles vertex x) 1 0) parts.1 in
        let zero_more : n + cond (settles vertex x) 1 0 ≡ n = rw parts.0 (omega arith) in
        h ∙ zero_more

none_from : (o : Option ClaimOut) → vertex_of o ≡ None → o ≡ None
none_from None e = refl
none_from (Some claim) e = cc

vertex_is : (o : Option ClaimOut) (claim : ClaimOut) (h : Option ℕ) → o ≡ Some claim → vertex_of o ≡ h → h ≡ Some claim.vertex
vertex_is o claim h e v = sym v ∙ ap vertex_of e

no_vertex : (o : Option ClaimOut) (h : Option ℕ) (vertex : ℕ) → o ≡ None → vertex_of o ≡ h → h ≡ Some vertex → ⊥
no_vertex o h vertex e v s = (let f : None ≡ Some vertex = sym (ap vertex_of e) ∙ (v ∙ s) in cc)

vertex_of-cond : (b : Bool) (claim : ClaimOut) (o : Option ClaimOut) (h : Option ℕ) → vertex_of o ≡ h → vertex_of (cond b (Some claim) o) ≡ cond b (Some claim.vertex) h
vertex_of-cond true claim o h e = refl
vertex_of-cond false claim o h e = e

vertex_of-none : (b : Bool) (o : Option ClaimOut) (h : Option ℕ) → vertex_of o ≡ h → vertex_of (cond b None o) ≡ cond b None h
vertex_of-none true o h e = refl
vertex_of-none false o h e = e

-- what holds of the beginning
pub Agrees-begun : (problem : Problem) → Agrees problem [] (begun problem).state
Agrees-begun problem = record {
  long = length-replicate (length problem.vertices) None;
  claims = λ worker. refl;
  apart = tt;
  settled = λ vertex. none_at vertex;
  valued = λ vertex e. absurd (both_ways false refl e);
  pending = λ worker vertex e. absurd cc;
  alone = λ worker other vertex e f. absurd cc;
  once = λ vertex. omega arith;
  holds = refl;
  held = AreHeld-begun problem;
}
  where
    none_at : (vertex : ℕ) → slice_index_or {A = Option TreeOrCause} (replicate (length problem.vertices) None) vertex None ≡ None
    none_at vertex = elim (cases_lt vertex (length problem.vertices)) [
      | inl l ↦ get_or-replicate (length problem.vertices) vertex None None l
      | inr past ↦ get_or_past (replicate (length problem.vertices) None) vertex None (rw (length-replicate {A = Option TreeOrCause} (length problem.vertices) None) past)
    ]

-- what a worker has out after a claim
claim_holds : (history : List Happened) (worker vertex by u : ℕ) → vertex_out (history ++ Claimed worker vertex ∷ []) by ≡ Some u → ((worker ≡ by) × (vertex ≡ u)) ⊎ ((worker ≢ by) × (vertex_out history by ≡ Some u))
claim_holds history worker vertex by u e = by_test (worker == by) refl (sym (held-push history (Claimed worker vertex) by) ∙ e)
  where
    by_test : (b : Bool) → (worker == by) ≡ b → cond (worker == by) (Some vertex) (vertex_out history by) ≡ Some u → ((worker ≡ by) × (vertex ≡ u)) ⊎ ((worker ≢ by) × (vertex_out history by ≡ Some u))
    by_test true t f = (let g : Some vertex ≡ Some u = rw t at f in inl (eqb-true worker by t, cc))
    by_test false t f = inr (eqb-false worker by t, rw t at f)

-- what a worker has out after an event that ends a claim
end_holds : (history : List Happened) (happened : Happened) (worker by u : ℕ) → vertex_out_then by (vertex_out history by) happened ≡ cond (worker == by) None (vertex_out history by) → vertex_out (history ++ happened ∷ []) by ≡ Some u → (worker ≢ by) × (vertex_out history by ≡ Some u)
end_holds history happened worker by u ends e = by_test (worker == by) refl (sym ends ∙ (sym (held-push history happened by) ∙ e))
  where
    by_test : (b : Bool) → (worker == by) ≡ b → cond (worker == by) None (vertex_out history by) ≡ Some u → (worker ≢ by) × (vertex_out history by ≡ Some u)
    by_test true t f = (let g : None ≡ Some u = rw t at f in cc)
    by_test false t f = (eqb-false worker by t, rw t at f)

ready_pending : (problem : Problem) (history : List Happened) (vertex : ℕ) → IsSound problem → IsReady problem history vertex → IsPending problem history vertex
ready_pending problem history vertex sound ready = record {
  within = ready-within problem history vertex ready;
  valued = sound.valued vertex ready.inputs.0 ready.inputs.1 (λ k d l. (ready.inputs.2 k d l).1);
  unsettled = false_from_ne_true (list_any (settles vertex) history) ready.unsettled;
}

still_pending : (problem : Problem) (history : List Happened) (happened : Happened) (vertex : ℕ) → settles vertex happened ≡ false → IsPending problem history vertex → IsPending problem (history ++ happened ∷ []) vertex
still_pending problem history happened vertex other pending = record {
  within = pending.within;
  valued = pending.valued;
  unsettled = unsettling history happened vertex other ∙ pending.unsettled;
}

once-kept : (history : List Happened) (happened : Happened) → ((vertex : ℕ) → settles vertex happened ≡ false) → IsSettledOnce history → IsSettledOnce (history ++ happened ∷ [])
once-kept history happened other once vertex =
    let e = count-push history happened vertex in
    let f : count_by (settles vertex) (history ++ happened ∷ []) ≡ count_by (settles vertex) history + 0 = rw (other vertex) at e in
    let o = once vertex in
    omega (arith, f, o)

-- a claim of the next vertex leaves a state that agrees
Agrees-claim : (problem : Problem) (history : List Happened) (state : State) (worker vertex : ℕ) → IsSound problem → Agrees problem history state → IsNext problem history worker vertex → Agrees problem (history ++ Claimed worker vertex ∷ []) (claim_move problem (record { history = history; state = state }) worker vertex).state
Agrees-claim problem history state worker vertex sound agrees is_next = record {
  long = agrees.long;
  claims = λ by. ap vertex_of (claim_of-push by state.claims (record { worker = worker; vertex = vertex; at = length history }) free) ∙ (vertex_of-cond (worker == by) (record { worker = worker; vertex = vertex; at = length history }) (claim_of by state.claims) (vertex_out history by) (agrees.claims by) ∙ sym (held-push history (Claimed worker vertex) by));
  apart = AreApart-push state.claims (record { worker = worker; vertex = vertex; at = length history }) agrees.apart free;
  settled = λ u. agrees.settled u ∙ sym (ap (λ b. cond b (vertex_value problem u) None) (unsettling history (Claimed worker vertex) u refl));
  valued = λ u e. agrees.valued u (sym (unsettling history (Claimed worker vertex) u refl) ∙ e);
  pending = λ by u e. still_pending problem history (Claimed worker vertex) u refl (pending_before by u (claim_holds history worker vertex by u e));
  alone = λ by other u e f. alone_after by other u (claim_holds history worker vertex by u e) (claim_holds history worker vertex other u f);
  once = once-kept history (Claimed worker vertex) (λ u. refl) agrees.once;
  holds = ap (λ holds. holds ++ new_holds worker holds (uses_at problem vertex)) agrees.holds ∙ sym (held_caches-push problem history (Claimed worker vertex));
  held = AreHeld-claim problem history worker vertex agrees.held is_next.idle is_next.ready.caches (sound.differ vertex);
}
  where
    free : claim_of worker state.claims ≡ None
    free = none_from (claim_of worker state.claims) (agrees.claims worker ∙ is_next.idle)

    pending_before : (by u : ℕ) → ((worker ≡ by) × (vertex ≡ u)) ⊎ ((worker ≢ by) × (vertex_out history by ≡ Some u)) → IsPending problem history u
    pending_before by u (inl h) = rw (← h.1) (ready_pending problem history vertex sound is_next.ready)
    pending_before by u (inr h) = agrees.pending by u h.1

    alone_after : (by other u : ℕ) → ((worker ≡ by) × (vertex ≡ u)) ⊎ ((worker ≢ by) × (vertex_out history by ≡ Some u)) → ((worker ≡ other) × (vertex ≡ u)) ⊎ ((worker ≢ other) × (vertex_out history other ≡ Some u)) → by ≡ other
    alone_after by other u (inl h) (inl k) = sym h.0 ∙ k.0
    alone_after by other u (inl h) (inr k) = absurd (is_next.ready.unclaimed other (k.1 ∙ ap Some (sym h.1)))
    alone_after by other u (inr h) (inl k) = absurd (is_next.ready.unclaimed by (h.1 ∙ ap Some (sym k.1)))
    alone_after by other u (inr h) (inr k) = agrees.alone by other u h.1 k.1

-- a settle of what a worker has out leaves a state that agrees.
Agrees-settle : (problem : Problem) (history : List Happened) (state : State) (given : List TreeMap) (claim : ClaimOut) → Agrees problem history state → vertex_out history claim.worker ≡ Some claim.vertex → Agrees problem (history ++ Settled claim.worker claim.vertex given ∷ []) (settle_move problem state given claim).state
Agrees-settle problem history state given claim agrees out = record {
  long = length-set state.settled claim.vertex (vertex_value problem claim.vertex) ∙ agrees.long;
  claims = λ by. ap vertex_of (claim_of-without by claim.worker state.claims) ∙ (vertex_of-none (claim.worker == by) (claim_of by state.claims) (vertex_out history by) (agrees.claims by) ∙ sym (held-push history now by));
  apart = AreApart-without claim.worker state.claims agrees.apart;
  settled = λ u. settled_after u (cases_eq claim.vertex u);
  valued = λ u e. valued_after u (or_cases (list_any (settles u) history) (claim.vertex == u) (sym (settles-push history now u) ∙ e));
  pending = λ by u e. pending_after by u (end_holds history now claim.worker by u refl e);
  alone = λ by other u e f. agrees.alone by other u (end_holds history now claim.worker by u refl e).1 (end_holds history now claim.worker other u refl f).1;
  once = λ u. once_after u (cases_eq claim.vertex u);
  holds = ap (without_holder claim.worker) agrees.holds ∙ sym (held_caches-push problem history now);
  held = AreHeld-end problem history now claim.worker agrees.held (λ by. refl) refl;
}
  where
    now : Happened
    now = Settled claim.worker claim.vertex given

    pending_here : IsPending problem history claim.vertex
    pending_here = agrees.pending claim.worker claim.vertex out

    settled_after : (u : ℕ) → (claim.vertex ≡ u) ⊎ (claim.vertex ≡ u → ⊥) → slice_index_or (slice_set state.settled claim.vertex (vertex_value problem claim.vertex)) u None ≡ cond (list_any (settles u) (history ++ now ∷ [])) (vertex_value problem u) None
    settled_after u (inl same) =
        let set : slice_index_or (slice_set state.settled claim.vertex (vertex_value problem claim.vertex)) claim.vertex None ≡ vertex_value problem claim.vertex = get_or-set_same state.settled claim.vertex (vertex_value problem claim.vertex) None (rw agrees.long pending_here.within) in
        let here : list_any (settles claim.vertex) (history ++ now ∷ []) ≡ true = settles-push history now claim.vertex ∙ or_right (list_any (settles claim.vertex) history) (claim.vertex == claim.vertex) (eq-eqb claim.vertex claim.vertex refl) in
        rw (← same) (rw here set)
    settled_after u (inr differ) =
        get_or-set_other state.settled claim.vertex u (vertex_value problem claim.vertex) None (λ e. differ (sym e)) ∙ (agrees.settled u ∙ sym (ap (λ b. cond b (vertex_value problem u) None) (unsettling history now u (ne_eqb claim.vertex u differ))))

    valued_after : (u : ℕ) → (list_any (settles u) history ≡ true) ⊎ ((claim.vertex == u) ≡ true) → is_some (vertex_value problem u) ≡ true
    valued_after u (inl before) = agrees.valued u before
    valued_after u (inr here) = rw (← eqb-true claim.vertex u here) pending_here.valued

    pending_after : (by u : ℕ) → (claim.worker ≢ by) × (vertex_out history by ≡ Some u) → IsPending problem (history ++ now ∷ []) u
    pending_after by u h = still_pending problem history now u (ne_eqb claim.vertex u (λ same. h.0 (agrees.alone claim.worker by u (out ∙ ap Some same) h.1))) (agrees.pending by u h.1)

    once_after : (u : ℕ) → (claim.vertex ≡ u) ⊎ (claim.vertex ≡ u → ⊥) → count_by (settles u) (history ++ now ∷ []) ≤ 1
    once_after u (inl same) =
        let e : count_by (settles claim.vertex) (history ++ now ∷ []) ≡ count_by (settles claim.vertex) history + 1 = rw (eq-eqb claim.vertex claim.vertex refl) at (count-push history now claim.vertex) in
        let none : count_by (settles claim.vertex) history ≡ 0 = count-none claim.vertex history pending_here.unsettled in
        let bound : count_by (settles claim.vertex) (history ++ now ∷ []) ≤ 1 = omega (arith, e, none) in
        rw (← same) bound
    once_after u (inr differ) =
        let e : count_by (settles u) (history ++ now ∷ []) ≡ count_by (settles u) history + 0 = rw (ne_eqb claim.vertex u differ) at (count-push history now u) in
        let o = agrees.once u in
        omega (arith, e, o)

-- an abandon of what a worker has out leaves a state that agrees.
Agrees-abandon : (problem : Problem) (history : List Happened) (state : State) (claim : ClaimOut) → Agrees problem history state → vertex_out history claim.worker ≡ Some claim.vertex → Agrees problem (history ++ Abandoned claim.worker claim.vertex ∷ []) (abandon_move state claim).state
Agrees-abandon problem history state claim agrees out = record {
  long = agrees.long;
  claims = λ by. ap vertex_of (claim_of-without by claim.worker state.claims) ∙ (vertex_of-none (claim.worker == by) (claim_of by state.claims) (vertex_out history by) (agrees.claims by) ∙ sym (held-push history now by));
  apart = AreApart-without claim.worker state.claims agrees.apart;
  settled = λ u. agrees.settled u ∙ sym (ap (λ b. cond b (vertex_value problem u) None) (unsettling history now u refl));
  valued = λ u e. agrees.valued u (sym (unsettling history now u refl) ∙ e);
  pending = λ by u e. still_pending problem history now u refl (agrees.pending by u (end_holds history now claim.worker by u refl e).1);
  alone = λ by other u e f. agrees.alone by other u (end_holds history now claim.worker by u refl e).1 (end_holds history now claim.worker other u refl f).1;
  once = once-kept history now (λ u. refl) agrees.once;
  holds = ap (without_holder claim.worker) agrees.holds ∙ sym (held_caches-push problem history now);
  held = AreHeld-end problem history now claim.worker agrees.held (λ by. refl) refl;
}
  where
    now : Happened
    now = Abandoned claim.worker claim.vertex

-- each move of the machine is possible by the rules, was asked for by its step, and leaves a state that agrees
pub record IsMove (problem : Problem) (history : List Happened) (step : Step) (move : Move) : Type 0 where
  pub possible : Possible problem history move.happened
  pub asked : step_of move.happened ≡ step
  pub agrees : Agrees problem (history ++ move.happened ∷ []) move.state

pub moved_claim : (problem : Problem) (run : Run) (worker : ℕ) (o : Option ℕ) (move : Move) → option_map (claim_move problem run worker) o ≡ Some move → (vertex : ℕ) × (o ≡ Some vertex) × (claim_move problem run worker vertex ≡ move)
moved_claim problem run worker None move e = cc
moved_claim problem run worker (Some vertex) move e = (vertex, refl, cc)

pub moved_settle : (problem : Problem) (state : State) (given : List TreeMap) (o : Option ClaimOut) (move : Move) → option_map (settle_move problem state given) (claim_giving problem given o) ≡ Some move → (claim : ClaimOut) × (o ≡ Some claim) × (length given ≡ length (uses_at problem claim.vertex)) × (settle_move problem state given claim ≡ move)
moved_settle problem state given None move e = cc
moved_settle problem state given (Some claim) move e = by_count (length given == length (uses_at problem claim.vertex)) refl
  where
    by_count : (b : Bool) → (length given == length (uses_at problem claim.vertex)) ≡ b → (vertex_out : ClaimOut) × (Some claim ≡ Some vertex_out) × (length given ≡ length (uses_at problem vertex_out.vertex)) × (settle_move problem state given vertex_out ≡ move)
    by_count true t =
        let f : Some (settle_move problem state given claim) ≡ Some move = rw t at e in
        (claim, refl, eqb-true _ _ t, cc)
    by_count false t = (let f : None ≡ Some move = rw t at e in cc)

pub moved_abandon : (state : State) (o : Option ClaimOut) (move : Move) → option_map (abandon_move state) o ≡ Some move → (claim : ClaimOut) × (o ≡ Some claim) × (abandon_move state claim ≡ move)
moved_abandon state None move e = cc
moved_abandon state (Some claim) move e = (claim, refl, cc)

pub next-some : (problem : Problem) (run : Run) (step : Step) (move : Move) → IsSound problem → Agrees problem run.history run.state → next problem run step ≡ Some move → IsMove problem run.history step move
next-some problem run (Claim worker) move sound agrees e =
    let m = moved_claim problem run worker (claimable problem run.state worker) move e in
    let is_next = claimable-some problem run.history run.state agrees worker m.0 m.1 in
    rw (← m.2) (record { possible = is_next; asked = refl; agrees = Agrees-claim problem run.history run.state worker m.0 sound agrees is_next })
next-some problem run (Settle worker given) move sound agrees e =
    let m = moved_settle problem run.state given (claim_of worker run.state.claims) move e in
    let by : m.0.worker ≡ worker = claim_of-worker worker run.state.claims m.0 m.1 in
    let holds : vertex_out run.history m.0.worker ≡ Some m.0.vertex = rw by (vertex_is (claim_of worker run.state.claims) m.0 (vertex_out run.history worker) m.1 (agrees.claims worker)) in
    rw (← m.3) (record { possible = (holds, m.2); asked = ap (λ w. Settle w given) by; agrees = Agrees-settle problem run.history run.state given m.0 agrees holds })
next-some problem run (Abandon worker) move sound agrees e =
    let m = moved_abandon run.state (claim_of worker run.state.claims) move e in
    let by : m.0.worker ≡ worker = claim_of-worker worker run.state.claims m.0 m.1 in
    let holds : vertex_out run.history m.0.worker ≡ Some m.0.vertex = rw by (vertex_is (claim_of worker run.state.claims) m.0 (vertex_out run.history worker) m.1 (agrees.claims worker)) in
    rw (← m.2) (record { possible = holds; asked = ap (λ w. Abandon w) by; agrees = Agrees-abandon problem run.history run.state m.0 agrees holds })

unmoved_claim : (problem : Problem) (run : Run) (worker : ℕ) (o : Option ℕ) → option_map (claim_move problem run worker) o ≡ None → o ≡ None
unmoved_claim problem run worker None e = refl
unmoved_claim problem run worker (Some vertex) e = cc

-- where no settle is made, no claim is out whose vertex uses as many caches as trees are given back
unmoved_settle : (problem : Problem) (state : State) (given : List TreeMap) (o : Option ClaimOut) (vertex : ℕ) → option_map (settle_move problem state given) (claim_giving problem given o) ≡ None → vertex_of o ≡ Some vertex → length given ≡ length (uses_at problem vertex) → ⊥
unmoved_settle problem state given None vertex e h l = cc
unmoved_settle problem state given (Some claim) vertex e h l =
    let same : claim.vertex ≡ vertex = cc in
    let t : (length given == length (uses_at problem claim.vertex)) ≡ true = eq-eqb _ _ (l ∙ ap (λ v. length (uses_at problem v)) (sym same)) in
    let f : Some (settle_move problem state given claim) ≡ None = rw t at e in
    cc

unmoved_abandon : (state : State) (o : Option ClaimOut) → option_map (abandon_move state) o ≡ None → o ≡ None
unmoved_abandon state None e = refl
unmoved_abandon state (Some claim) e = cc

-- where the machine makes no move, nothing that the step asks for is possible
pub next-none : (problem : Problem) (run : Run) (step : Step) → Agrees problem run.history run.state → next problem run step ≡ None → (happened : Happened) → step_of happened ≡ step → ¬ Possible problem run.history happened
next-none problem run (Claim worker) agrees e (Claimed by vertex) asked is_next =
    let none = claimable-none problem run.history run.state agrees worker (unmoved_claim problem run worker (claimable problem run.state worker) e) in
    let same : by ≡ worker = cc in
    refuse none same is_next
  where
    refuse : (vertex_out run.history worker ≢ None) ⊎ ((v : ℕ) → ¬ IsReady problem run.history v) → by ≡ worker → IsNext problem run.history by vertex → ⊥
    refuse (inl busy) same is_next = busy (rw (← same) is_next.idle)
    refuse (inr no_ready) same is_next = no_ready vertex is_next.ready
next-none problem run (Claim worker) agrees e (Settled by vertex given) asked possible = cc
next-none problem run (Claim worker) agrees e (Abandoned by vertex) asked possible = cc
next-none problem run (Settle worker given) agrees e (Claimed by vertex) asked possible = cc
next-none problem run (Settle worker given) agrees e (Settled by vertex others) asked possible =
    let same : by ≡ worker = cc in
    let trees : others ≡ given = cc in
    unmoved_settle problem run.state given (claim_of worker run.state.claims) vertex e (agrees.claims worker ∙ rw (← same) possible.0) (ap length (sym trees) ∙ possible.1)
next-none problem run (Settle worker given) agrees e (Abandoned by vertex) asked possible = cc
next-none problem run (Abandon worker) agrees e (Claimed by vertex) asked possible = cc
next-none problem run (Abandon worker) agrees e (Settled by vertex given) asked possible = cc
next-none problem run (Abandon worker) agrees e (Abandoned by vertex) asked possible =
    let none = unmoved_abandon run.state (claim_of worker run.state.claims) e in
    let same : by ≡ worker = cc in
    no_vertex (claim_of worker run.state.claims) (vertex_out run.history worker) vertex none (agrees.claims worker) (rw (← same) possible)

-- a worker that may claim a vertex has no claim out
pub claim-free : (problem : Problem) (state : State) (worker vertex : ℕ) → claimable problem state worker ≡ Some vertex → claim_of worker state.claims ≡ None
claim-free problem state worker vertex e = by_claim (claim_of worker state.claims) refl
  where
    by_claim : (o : Option ClaimOut) → claim_of worker state.claims ≡ o → claim_of worker state.claims ≡ None
    by_claim (Some claim) o = (let f : None ≡ Some vertex = rw o at e in cc)
    by_claim None o = o

-- a step of one worker leaves the claim of another one out
pub other-stays : (problem : Problem) (run : Run) (step : Step) (move : Move) (worker : ℕ) → next problem run step ≡ Some move → worker_of step ≢ worker → claim_of worker move.state.claims ≡ claim_of worker run.state.claims
other-stays problem run (Claim by) move worker e other =
    let m = moved_claim problem run by (claimable problem run.state by) move e in
    let pushed = claim_of-push worker run.state.claims (record { worker = by; vertex = m.0; at = length run.history }) (claim-free problem run.state by m.0 m.1) in
    rw (← m.2) (pushed ∙ rw (ne_eqb by worker other) refl)
other-stays problem run (Settle by given) move worker e other =
    let m = moved_settle problem run.state given (claim_of by run.state.claims) move e in
    let apart : (m.0.worker == worker) ≡ false = ne_eqb m.0.worker worker (λ q. other (sym (claim_of-worker by run.state.claims m.0 m.1) ∙ q)) in
    rw (← m.3) (claim_of-without worker m.0.worker run.state.claims ∙ rw apart refl)
other-stays problem run (Abandon by) move worker e other =
    let m = moved_abandon run.state (claim_of by run.state.claims) move e in
    let apart : (m.0.worker == worker) ≡ false = ne_eqb m.0.worker worker (λ q. other (sym (claim_of-worker by run.state.claims m.0 m.1) ∙ q)) in
    rw (← m.2) (claim_of-without worker m.0.worker run.state.claims ∙ rw apart refl)
