-- What the machine tests is what the rules say of histories.
use Rattle.std.proofs.Common.{◌≡◌, ◌≢◌, ℕ, ◌<◌, Bool, true, false, not, ◌&&◌, ◌||◌, cond, ◌⊎◌, inl, inr, List, length, Option, Some, None, is_some, Ok, Err, refl, sym, ap, ◌∙◌}
use Rattle.std.specs.Prelude.{slice_get}
use Rattle.std.specs.List.{list_any, slice_index_or, All}
use Rattle.std.specs.Option.{option_map_or}
use Rattle.std.proofs.lemmas.Bool.{cases_lt, and_parts, and_from, not-true, not_from_false, both_ways, false_from_ne_true}
use Rattle.std.proofs.lemmas.List.Sums.{AllPass-from_list_all, list_all-from_AllPass}
use Rattle.std.proofs.lemmas.List.Folds.{list_any_at, Any-from_list_any}
use Rattle.std.proofs.lemmas.List.{get_or_past, get_or_default}
use Rattle.std.proofs.lemmas.Option.{slice_get_within}
use Rattle.trees.specs.TreeMap.{TreeMap}
use Rattle.trees.specs.Cause.{TreeOrCause}
use Rattle.llb.specs.declared.vertex.Vertex.{Vertex}
use Rattle.plans.specs.Plan.{Problem, vertex_value}
use Rattle.trees.specs.declared.cause.Cause.{Cause}
use Rattle.runs.specs.Run.{ids_differ, ids_of}
use Rattle.cachemounts.specs.Holds.{can_take}
use Rattle.board.specs.Readiness.{has_tree, has_cause, stops}
use Rattle.board.proofs.CacheLemmas.{AreHeld, stops-same}
use Rattle.plans.specs.Plan.{uses_at}
use Rattle.board.specs.Play.{State, value_at, claim_of, is_claimed, have_trees, is_ready, least, claimable}
use Rattle.board.specs.Legal.{vertex_out, settles, IsSettled, HasTree, HasCause, IsAvailable, IsReady, IsNext, IsSettledOnce, held_caches, settled_by}
use Rattle.board.proofs.ListLemmas.{is_claimed-false, is_claimed-none, least-some, least-none}
use Rattle.board.specs.Play.{vertex_of}
use Rattle.board.specs.PrivateClaim.{AreApart}
use Rattle.board.specs.PrivateFrontier.{is_begun, is_available}
use Rattle.board.specs.declared.event.Happened.{Happened}
use Rattle.board.specs.declared.claim.ClaimOut.{ClaimOut}

-- what a problem's graph gives: inputs are smaller, and a vertex whose inputs have trees has a value.
pub record IsSound (problem : Problem) : Type 0 where
  pub below : (vertex : ℕ) (v : Vertex) → slice_get problem.vertices vertex ≡ Some v → All (λ input. input < vertex) v.inputs
  pub valued : (vertex : ℕ) (v : Vertex) → slice_get problem.vertices vertex ≡ Some v → All (λ input. HasTree problem input) v.inputs → is_some (vertex_value problem vertex) ≡ true
  pub differ : (vertex : ℕ) → ids_differ (ids_of (uses_at problem vertex)) ≡ true

-- a vertex that a worker has out: it is in the graph, has a value, and isn't settled
pub record IsPending (problem : Problem) (history : List Happened) (vertex : ℕ) : Type 0 where
  pub within : vertex < length problem.vertices
  pub valued : is_some (vertex_value problem vertex) ≡ true
  pub unsettled : list_any (settles vertex) history ≡ false

-- a state agrees with a history: it has just what the history says
pub record Agrees (problem : Problem) (history : List Happened) (state : State) : Type 0 where
  pub long : length state.settled ≡ length problem.vertices
  pub claims : (worker : ℕ) → vertex_of (claim_of worker state.claims) ≡ vertex_out history worker
  pub apart : AreApart state.claims
  pub settled : (vertex : ℕ) → value_at state.settled vertex ≡ cond (list_any (settles vertex) history) (vertex_value problem vertex) None
  pub valued : (vertex : ℕ) → IsSettled history vertex → is_some (vertex_value problem vertex) ≡ true
  pub pending : (worker vertex : ℕ) → vertex_out history worker ≡ Some vertex → IsPending problem history vertex
  pub alone : (worker other vertex : ℕ) → vertex_out history worker ≡ Some vertex → vertex_out history other ≡ Some vertex → worker ≡ other
  pub once : IsSettledOnce history
  pub holds : state.holds ≡ held_caches problem history
  pub held : AreHeld problem history

value_some : (b : Bool) (value here : Option TreeOrCause) → here ≡ cond b value None → (b ≡ true → is_some value ≡ true) → is_some here ≡ b
value_some true value here e known = rw e (known refl)
value_some false value here e known = rw e refl

-- a vertex is settled in a state where its history settles it
pub settled-is : (problem : Problem) (history : List Happened) (state : State) → Agrees problem history state → (vertex : ℕ) → is_some (value_at state.settled vertex) ≡ list_any (settles vertex) history
settled-is problem history state agrees vertex =
    value_some (list_any (settles vertex) history) (vertex_value problem vertex) (value_at state.settled vertex) (agrees.settled vertex) (agrees.valued vertex)

tree_of : (o : Option TreeOrCause) → has_tree o ≡ true → (tree : TreeMap) × (o ≡ Some (Ok tree))
tree_of (Some (Ok tree)) e = (tree, refl)
tree_of (Some (Err cause)) e = cc
tree_of None e = cc

cause_of : (o : Option TreeOrCause) → has_cause o ≡ true → (cause : Cause) × (o ≡ Some (Err cause))
cause_of (Some (Ok tree)) e = cc
cause_of (Some (Err cause)) e = (cause, refl)
cause_of None e = cc

tree_there : (b : Bool) (value here : Option TreeOrCause) → here ≡ cond b value None → has_tree here ≡ true → (b ≡ true) × ((tree : TreeMap) × (value ≡ Some (Ok tree)))
tree_there true value here e t = (refl, tree_of value (rw e at t))
tree_there false value here e t = (let f : false ≡ true = rw e at t in cc)

tree_back : (b : Bool) (value here : Option TreeOrCause) (tree : TreeMap) → here ≡ cond b value None → b ≡ true → value ≡ Some (Ok tree) → has_tree here ≡ true
tree_back true value here tree e t v = rw (e, v) refl
tree_back false value here tree e t v = cc

cause_there : (b : Bool) (value here : Option TreeOrCause) → here ≡ cond b value None → has_cause here ≡ true → (b ≡ true) × ((cause : Cause) × (value ≡ Some (Err cause)))
cause_there true value here e t = (refl, cause_of value (rw e at t))
cause_there false value here e t = (let f : false ≡ true = rw e at t in cc)

cause_back : (b : Bool) (value here : Option TreeOrCause) (cause : Cause) → here ≡ cond b value None → b ≡ true → value ≡ Some (Err cause) → has_cause here ≡ true
cause_back true value here cause e t v = rw (e, v) refl
cause_back false value here cause e t v = cc

-- an input has a tree in a state just where its history settles it and its value is a tree
pub tree-is : (problem : Problem) (history : List Happened) (state : State) → Agrees problem history state → (vertex : ℕ) → has_tree (value_at state.settled vertex) ≡ true → IsSettled history vertex × HasTree problem vertex
tree-is problem history state agrees vertex e =
    tree_there (list_any (settles vertex) history) (vertex_value problem vertex) (value_at state.settled vertex) (agrees.settled vertex) e

pub tree-from : (problem : Problem) (history : List Happened) (state : State) → Agrees problem history state → (vertex : ℕ) → IsSettled history vertex → HasTree problem vertex → has_tree (value_at state.settled vertex) ≡ true
tree-from problem history state agrees vertex settled tree =
    tree_back (list_any (settles vertex) history) (vertex_value problem vertex) (value_at state.settled vertex) tree.0 (agrees.settled vertex) settled tree.1

have_trees-is : (problem : Problem) (history : List Happened) (state : State) → Agrees problem history state → (inputs : List ℕ) → have_trees state.settled inputs ≡ true → All (λ input. IsSettled history input × HasTree problem input) inputs
have_trees-is problem history state agrees inputs e =
    λ k d l. tree-is problem history state agrees (slice_index_or inputs k d) (AllPass-from_list_all (λ input. has_tree (value_at state.settled input)) inputs e k d l)

have_trees-from : (problem : Problem) (history : List Happened) (state : State) → Agrees problem history state → (inputs : List ℕ) → All (λ input. IsSettled history input × HasTree problem input) inputs → have_trees state.settled inputs ≡ true
have_trees-from problem history state agrees inputs all =
    list_all-from_AllPass (λ input. has_tree (value_at state.settled input)) inputs (λ k d l. tree-from problem history state agrees (slice_index_or inputs k d) (all k d l).0 (all k d l).1)

within_if_some : (settled : List (Option TreeOrCause)) (vertex : ℕ) → has_cause (value_at settled vertex) ≡ true → vertex < length settled
within_if_some settled vertex e =
    elim (cases_lt vertex (length settled)) [
      | inl l ↦ l
      | inr past ↦
          let none : value_at settled vertex ≡ None = get_or_past settled vertex None past in
          let f : false ≡ true = rw none at e in
          cc
    ]

-- no vertex is settled with a cause in a state just where none is by its history
pub no_cause-is : (problem : Problem) (history : List Happened) (state : State) → Agrees problem history state → list_any has_cause state.settled ≡ false → (other : ℕ) → IsSettled history other → ¬ HasCause problem other
no_cause-is problem history state agrees none other settled cause =
    let here : has_cause (value_at state.settled other) ≡ true = cause_back (list_any (settles other) history) (vertex_value problem other) (value_at state.settled other) cause.0 (agrees.settled other) settled cause.1 in
    both_ways _ none (list_any_at has_cause state.settled other None (within_if_some state.settled other here) here)

-- a vertex that is settled with a cause in a state is so by its history
pub cause-is : (problem : Problem) (history : List Happened) (state : State) → Agrees problem history state → list_any has_cause state.settled ≡ true → (vertex : ℕ) × IsSettled history vertex × HasCause problem vertex
cause-is problem history state agrees e =
    let some = Any-from_list_any has_cause state.settled e in
    let same : value_at state.settled some.0 ≡ some.1 = get_or_default state.settled some.0 None some.1 some.2 ∙ some.3 in
    let here : has_cause (value_at state.settled some.0) ≡ true = rw same some.4 in
    let there = cause_there (list_any (settles some.0) history) (vertex_value problem some.0) (value_at state.settled some.0) (agrees.settled some.0) here in
    (some.0, there.0, there.1)

pub no_cause-from : (problem : Problem) (history : List Happened) (state : State) → Agrees problem history state → ((other : ℕ) → IsSettled history other → ¬ HasCause problem other) → list_any has_cause state.settled ≡ false
no_cause-from problem history state agrees none = false_from_ne_true (list_any has_cause state.settled) refute
  where
    refute : list_any has_cause state.settled ≡ true → ⊥
    refute e = (let cause = cause-is problem history state agrees e in none cause.0 cause.1 cause.2)

-- what stops a vertex in a state stops it after the history
stops-is : (problem : Problem) (history : List Happened) (state : State) → Agrees problem history state → (vertex : ℕ) → stops problem (value_at state.settled) vertex ≡ stops problem (settled_by problem history) vertex
stops-is problem history state agrees vertex = stops-same problem (value_at state.settled) (settled_by problem history) agrees.settled vertex

caches-is : (problem : Problem) (history : List Happened) (state : State) → Agrees problem history state → (vertex : ℕ) → can_take state.holds (uses_at problem vertex) ≡ can_take (held_caches problem history) (uses_at problem vertex)
caches-is problem history state agrees vertex = ap (λ holds. can_take holds (uses_at problem vertex)) agrees.holds

neither : (a b : Bool) → not (a || b) ≡ true → (a ≡ false) × (b ≡ false)
neither true b e = cc
neither false true e = cc
neither false false e = (refl, refl)

-- a vertex that is available by what a board holds is so by its history
pub available-is : (problem : Problem) (history : List Happened) (state : State) → Agrees problem history state → (vertex : ℕ) → is_available problem.vertices state.settled state.claims vertex ≡ true → IsAvailable problem history vertex
available-is problem history state agrees vertex e = by_vertex (slice_get problem.vertices vertex) refl parts.0
  where
    parts : (option_map_or (λ (v : Vertex). have_trees state.settled v.inputs) (slice_get problem.vertices vertex) false ≡ true) × (not (is_begun state.settled state.claims vertex) ≡ true)
    parts = and_parts _ _ e

    free : (is_some (value_at state.settled vertex) ≡ false) × (is_claimed vertex state.claims ≡ false)
    free = neither (is_some (value_at state.settled vertex)) (is_claimed vertex state.claims) parts.1

    unsettled : list_any (settles vertex) history ≡ false
    unsettled = sym (settled-is problem history state agrees vertex) ∙ free.0

    by_vertex : (o : Option Vertex) → slice_get problem.vertices vertex ≡ o → option_map_or (λ (v : Vertex). have_trees state.settled v.inputs) o false ≡ true → IsAvailable problem history vertex
    by_vertex None there all = cc
    by_vertex (Some v) there all = record {
      unclaimed = λ worker h. is_claimed-false vertex state.claims free.1 worker (agrees.claims worker ∙ h);
      unsettled = λ s. both_ways _ unsettled s;
      inputs = (v, there, have_trees-is problem history state agrees v.inputs all);
    }

-- a vertex that the machine finds ready is ready
pub ready-is : (problem : Problem) (history : List Happened) (state : State) → Agrees problem history state → (vertex : ℕ) → is_ready problem state vertex ≡ true → IsReady problem history vertex
ready-is problem history state agrees vertex e = by_vertex (slice_get problem.vertices vertex) refl parts.0
  where
    parts : (option_map_or (λ (v : Vertex). have_trees state.settled v.inputs) (slice_get problem.vertices vertex) false ≡ true) × (((not (is_some (value_at state.settled vertex)) && not (is_claimed vertex state.claims)) && (can_take state.holds (uses_at problem vertex) && not (stops problem (value_at state.settled) vertex))) ≡ true)
    parts = and_parts _ _ e

    halves : ((not (is_some (value_at state.settled vertex)) && not (is_claimed vertex state.claims)) ≡ true) × ((can_take state.holds (uses_at problem vertex) && not (stops problem (value_at state.settled) vertex)) ≡ true)
    halves = and_parts _ _ parts.1

    free : (not (is_some (value_at state.settled vertex)) ≡ true) × (not (is_claimed vertex state.claims) ≡ true)
    free = and_parts _ _ halves.0

    goes : (can_take state.holds (uses_at problem vertex) ≡ true) × (not (stops problem (value_at state.settled) vertex) ≡ true)
    goes = and_parts _ _ halves.1

    unsettled : list_any (settles vertex) history ≡ false
    unsettled = sym (settled-is problem history state agrees vertex) ∙ not-true _ free.0

    unclaimed : (worker : ℕ) → vertex_out history worker ≢ Some vertex
    unclaimed worker h = is_claimed-false vertex state.claims (not-true _ free.1) worker (agrees.claims worker ∙ h)

    by_vertex : (o : Option Vertex) → slice_get problem.vertices vertex ≡ o → option_map_or (λ (v : Vertex). have_trees state.settled v.inputs) o false ≡ true → IsReady problem history vertex
    by_vertex None there all = cc
    by_vertex (Some v) there all = record {
      unclaimed = unclaimed;
      unsettled = λ s. both_ways _ unsettled s;
      inputs = (v, there, have_trees-is problem history state agrees v.inputs all);
      caches = sym (caches-is problem history state agrees vertex) ∙ goes.0;
      goes_on = sym (stops-is problem history state agrees vertex) ∙ not-true _ goes.1;
    }

-- a vertex that is ready the machine finds ready
pub ready-from : (problem : Problem) (history : List Happened) (state : State) → Agrees problem history state → (vertex : ℕ) → IsReady problem history vertex → is_ready problem state vertex ≡ true
ready-from problem history state agrees vertex ready =
    and_from _ _ (rw ready.inputs.1 (have_trees-from problem history state agrees ready.inputs.0.inputs ready.inputs.2)) (and_from _ _ (and_from _ _ unsettled unclaimed) (and_from _ _ (caches-is problem history state agrees vertex ∙ ready.caches) (not_from_false _ (stops-is problem history state agrees vertex ∙ ready.goes_on))))
  where
    unsettled : not (is_some (value_at state.settled vertex)) ≡ true
    unsettled = not_from_false _ (settled-is problem history state agrees vertex ∙ false_from_ne_true _ ready.unsettled)

    unclaimed : not (is_claimed vertex state.claims) ≡ true
    unclaimed = not_from_false _ (is_claimed-none vertex state.claims agrees.apart (λ worker e. ready.unclaimed worker (sym (agrees.claims worker) ∙ e)))

-- a vertex that is ready is in the graph
pub ready-within : (problem : Problem) (history : List Happened) (vertex : ℕ) → IsReady problem history vertex → vertex < length problem.vertices
ready-within problem history vertex ready = slice_get_within problem.vertices vertex ready.inputs.0 ready.inputs.1

idle_from : (o : Option ClaimOut) → is_some o ≡ false → vertex_of o ≡ None
idle_from None e = refl
idle_from (Some claim) e = cc

busy_from : (o : Option ClaimOut) → is_some o ≡ true → vertex_of o ≢ None
busy_from None e h = cc
busy_from (Some claim) e h = cc

-- what the machine gives a worker is the least vertex that is ready
pub claimable-some : (problem : Problem) (history : List Happened) (state : State) → Agrees problem history state → (worker vertex : ℕ) → claimable problem state worker ≡ Some vertex → IsNext problem history worker vertex
claimable-some problem history state agrees worker vertex e = by_claim (is_some (claim_of worker state.claims)) refl
  where
    by_claim : (b : Bool) → is_some (claim_of worker state.claims) ≡ b → IsNext problem history worker vertex
    by_claim true busy = (let f : None ≡ Some vertex = rw busy at e in cc)
    by_claim false idle =
        let f : least (is_ready problem state) (length problem.vertices) ≡ Some vertex = rw idle at e in
        let h = least-some (is_ready problem state) (length problem.vertices) vertex f in
        record {
          idle = sym (agrees.claims worker) ∙ idle_from _ idle;
          ready = ready-is problem history state agrees vertex h.passes;
          least = λ lower l r. both_ways _ (h.below lower l) (ready-from problem history state agrees lower r);
        }

-- where the machine gives nothing, no vertex may be claimed
pub claimable-none : (problem : Problem) (history : List Happened) (state : State) → Agrees problem history state → (worker : ℕ) → claimable problem state worker ≡ None → (vertex_out history worker ≢ None) ⊎ ((vertex : ℕ) → ¬ IsReady problem history vertex)
claimable-none problem history state agrees worker e = by_claim (is_some (claim_of worker state.claims)) refl
  where
    by_claim : (b : Bool) → is_some (claim_of worker state.claims) ≡ b → (vertex_out history worker ≢ None) ⊎ ((vertex : ℕ) → ¬ IsReady problem history vertex)
    by_claim true busy = inl (λ h. busy_from _ busy (agrees.claims worker ∙ h))
    by_claim false idle =
        let f : least (is_ready problem state) (length problem.vertices) ≡ None = rw idle at e in
        inr (λ vertex ready. both_ways _ (least-none (is_ready problem state) (length problem.vertices) f vertex (ready-within problem history vertex ready)) (ready-from problem history state agrees vertex ready))
