-- What a list of events leaves is one history, the trees that settles give back aside.
use Rattle.std.proofs.Common.{◌≡◌, ℕ, ◌<◌, ◌⊎◌, inl, inr, List, [], ◌∷◌, ◌++◌, map, Option, Some, None, refl, sym, ap, ◌∙◌}
use Rattle.std.specs.List.{list_any, fold, slice_index_or}
use Rattle.std.proofs.lemmas.Bool.{cases_order}
use Rattle.std.specs.Prelude.{cond}
use Rattle.cachemounts.specs.Holds.{can_take}
use Rattle.cachemounts.specs.Changes.{holds_then}
use Rattle.board.proofs.CacheLemmas.{stops-same}
use Rattle.plans.specs.Plan.{Problem, uses_at, vertex_value}
use Rattle.cachemounts.specs.declared.holds.Hold.{Hold}
use Rattle.board.specs.Legal.{settled_by, change_of, held_caches, event_of, vertex_out, vertex_out_then, settles, IsSettled, IsReady, IsNext, Possible, PlaysOn, Plays, without_trees}
use Rattle.board.proofs.PlayLemmas.{map-append}
use Rattle.board.specs.declared.event.Event.{Event}
use Rattle.board.specs.declared.event.Happened.{Happened}
use Rattle.board.specs.declared.event.Happened.TheVariants.{Claimed, Settled, Abandoned}

held_then-aside : (worker : ℕ) (before : Option ℕ) (happened : Happened) → vertex_out_then worker before (without_trees happened) ≡ vertex_out_then worker before happened
held_then-aside worker before (Claimed by vertex) = refl
held_then-aside worker before (Settled by vertex given) = refl
held_then-aside worker before (Abandoned by vertex) = refl

held_from-aside : (worker : ℕ) (before : Option ℕ) (history : List Happened) → fold (vertex_out_then worker) before (map without_trees history) ≡ fold (vertex_out_then worker) before history
held_from-aside worker before [] = refl
held_from-aside worker before (first ∷ history) =
    ap (λ o. fold (vertex_out_then worker) o (map without_trees history)) (held_then-aside worker before first) ∙ held_from-aside worker (vertex_out_then worker before first) history

settles-aside : (vertex : ℕ) (happened : Happened) → settles vertex (without_trees happened) ≡ settles vertex happened
settles-aside vertex (Claimed by which) = refl
settles-aside vertex (Settled by which given) = refl
settles-aside vertex (Abandoned by which) = refl

settled-aside : (vertex : ℕ) (history : List Happened) → list_any (settles vertex) (map without_trees history) ≡ list_any (settles vertex) history
settled-aside vertex [] = refl
settled-aside vertex (first ∷ history) = rw (settles-aside vertex first, settled-aside vertex history) refl

-- two histories in which each worker has the same vertex out, and the same is settled
record IsLike (these those : List Happened) : Type 0 where
  pub claims : (worker : ℕ) → vertex_out these worker ≡ vertex_out those worker
  pub settled : (vertex : ℕ) → list_any (settles vertex) these ≡ list_any (settles vertex) those
  pub caches : (problem : Problem) → held_caches problem these ≡ held_caches problem those

book_then-aside : (problem : Problem) (holds : List Hold) (happened : Happened) → holds_then holds (change_of problem (without_trees happened)) ≡ holds_then holds (change_of problem happened)
book_then-aside problem holds (Claimed by which) = refl
book_then-aside problem holds (Settled by which given) = refl
book_then-aside problem holds (Abandoned by which) = refl

caches_from-aside : (problem : Problem) (holds : List Hold) (history : List Happened) → fold holds_then holds (map (change_of problem) (map without_trees history)) ≡ fold holds_then holds (map (change_of problem) history)
caches_from-aside problem holds [] = refl
caches_from-aside problem holds (first ∷ history) =
    ap (λ b. fold holds_then b (map (change_of problem) (map without_trees history))) (book_then-aside problem holds first) ∙ caches_from-aside problem (holds_then holds (change_of problem first)) history

like : (these those : List Happened) → map without_trees these ≡ map without_trees those → IsLike these those
like these those e = record {
  claims = λ worker. sym (held_from-aside worker None these) ∙ (ap (λ h. fold (vertex_out_then worker) None h) e ∙ held_from-aside worker None those);
  settled = λ vertex. sym (settled-aside vertex these) ∙ (ap (list_any (settles vertex)) e ∙ settled-aside vertex those);
  caches = λ problem. sym (caches_from-aside problem [] these) ∙ (ap (λ h. fold holds_then [] (map (change_of problem) h)) e ∙ caches_from-aside problem [] those);
}

back : (these those : List Happened) → IsLike these those → IsLike those these
back these those is = record { claims = λ worker. sym (is.claims worker); settled = λ vertex. sym (is.settled vertex); caches = λ problem. sym (is.caches problem) }

still_settled : (these those : List Happened) → IsLike these those → (vertex : ℕ) → IsSettled these vertex → IsSettled those vertex
still_settled these those is vertex s = sym (is.settled vertex) ∙ s

ready-like : (problem : Problem) (these those : List Happened) (vertex : ℕ) → IsLike these those → IsReady problem these vertex → IsReady problem those vertex
ready-like problem these those vertex is ready = record {
  unclaimed = λ worker e. ready.unclaimed worker (is.claims worker ∙ e);
  unsettled = λ s. ready.unsettled (still_settled those these (back these those is) vertex s);
  inputs = (ready.inputs.0, ready.inputs.1, λ k d l. (still_settled these those is (slice_index_or ready.inputs.0.inputs k d) (ready.inputs.2 k d l).0, (ready.inputs.2 k d l).1));
  caches = ap (λ holds. can_take holds (uses_at problem vertex)) (sym (is.caches problem)) ∙ ready.caches;
  goes_on = sym (stops-same problem (settled_by problem these) (settled_by problem those) (λ k. ap (λ b. cond b (vertex_value problem k) None) (is.settled k)) vertex) ∙ ready.goes_on;
}

possible-like : (problem : Problem) (these those : List Happened) (happened : Happened) → IsLike these those → Possible problem these happened → Possible problem those happened
possible-like problem these those (Claimed worker vertex) is next = record {
  idle = sym (is.claims worker) ∙ next.idle;
  ready = ready-like problem these those vertex is next.ready;
  least = λ lower l r. next.least lower l (ready-like problem those these lower (back these those is) r);
}
possible-like problem these those (Settled worker vertex given) is possible = (sym (is.claims worker) ∙ possible.0, possible.1)
possible-like problem these those (Abandoned worker vertex) is possible = sym (is.claims worker) ∙ possible

one_next : (problem : Problem) (history : List Happened) (worker other vertex which : ℕ) → IsNext problem history worker vertex → IsNext problem history other which → vertex ≡ which
one_next problem history worker other vertex which a b = by_order (cases_order vertex which)
  where
    by_order : (vertex ≡ which) ⊎ ((vertex < which) ⊎ (which < vertex)) → vertex ≡ which
    by_order (inl e) = e
    by_order (inr (inl l)) = absurd (b.least vertex l a.ready)
    by_order (inr (inr l)) = absurd (a.least which l b.ready)

-- at one moment one event has one outcome, the trees given back aside
one_outcome : (problem : Problem) (history : List Happened) (this that : Happened) → event_of this ≡ event_of that → Possible problem history this → Possible problem history that → without_trees this ≡ without_trees that
one_outcome problem history (Claimed worker vertex) (Claimed by which) e p q =
    let same : worker ≡ by = cc in
    let vertices : vertex ≡ which = one_next problem history worker by vertex which p q in
    cc
one_outcome problem history (Claimed worker vertex) (Settled by which given) e p q = cc
one_outcome problem history (Claimed worker vertex) (Abandoned by which) e p q = cc
one_outcome problem history (Settled worker vertex given) (Claimed by which) e p q = cc
one_outcome problem history (Settled worker vertex given) (Settled by which others) e p q =
    let same : worker ≡ by = cc in
    let f : Some vertex ≡ Some which = sym p.0 ∙ (ap (vertex_out history) same ∙ q.0) in
    let vertices : vertex ≡ which = cc in
    cc
one_outcome problem history (Settled worker vertex given) (Abandoned by which) e p q = cc
one_outcome problem history (Abandoned worker vertex) (Claimed by which) e p q = cc
one_outcome problem history (Abandoned worker vertex) (Settled by which given) e p q = cc
one_outcome problem history (Abandoned worker vertex) (Abandoned by which) e p q =
    let same : worker ≡ by = cc in
    let f : Some vertex ≡ Some which = sym p ∙ (ap (vertex_out history) same ∙ q) in
    let vertices : vertex ≡ which = cc in
    cc

aside-push : (history others : List Happened) (this that : Happened) → map without_trees history ≡ map without_trees others → without_trees this ≡ without_trees that → map without_trees (history ++ this ∷ []) ≡ map without_trees (others ++ that ∷ [])
aside-push history others this that e f =
    map-append without_trees history (this ∷ []) ∙ (rw (e, f) (sym (map-append without_trees others (that ∷ []))))

one_from : (problem : Problem) (events : List Event) (before others after last : List Happened) → map without_trees before ≡ map without_trees others → PlaysOn problem before events after → PlaysOn problem others events last → map without_trees after ≡ map without_trees last
one_from problem [] before others after last e p q = ap (map without_trees) p ∙ (e ∙ sym (ap (map without_trees) q))
one_from problem (event ∷ events) before others after last e (inl p) (inl q) =
    let is = like others before (sym e) in
    let same : without_trees p.0 ≡ without_trees q.0 = one_outcome problem before p.0 q.0 (p.1 ∙ sym q.1) p.2 (possible-like problem others before q.0 is q.2) in
    one_from problem events (before ++ p.0 ∷ []) (others ++ q.0 ∷ []) after last (aside-push before others p.0 q.0 e same) p.3 q.3
one_from problem (event ∷ events) before others after last e (inl p) (inr q) = absurd (q.0 p.0 p.1 (possible-like problem before others p.0 (like before others e) p.2))
one_from problem (event ∷ events) before others after last e (inr p) (inl q) = absurd (p.0 q.0 q.1 (possible-like problem others before q.0 (like others before (sym e)) q.2))
one_from problem (event ∷ events) before others after last e (inr p) (inr q) = one_from problem events before others after last e p.1 q.1

pub one_history : (problem : Problem) (events : List Event) (history other : List Happened) → Plays problem events history → Plays problem events other → map without_trees history ≡ map without_trees other
one_history problem events history other p q = one_from problem events [] [] history other refl p q
