-- What holds of every replay: its history is legal, what is settled are the vertices' values, each once, and it never gets stuck.
use Rattle.std.proofs.Common.{◌≡◌, ◌≢◌, ℕ, suc, ◌<◌, ◌≤◌, Bool, true, false, not, ◌==◌, cond, ◌⊎◌, inl, inr, List, [], ◌∷◌, ◌++◌, length, map, Option, Some, None, is_some, Ok, Err, refl, sym, ap, ◌∙◌, subst, arith, append_assoc, append-nil}
use Rattle.std.specs.Prelude.{slice_get}
use Rattle.std.specs.List.{list_any, slice_index_or}
use Rattle.std.proofs.lemmas.Bool.{both_ways, not-false, not-true, or_parts, eq-eqb}
use Rattle.std.proofs.lemmas.Option.{slice_get_cases}
use Rattle.trees.specs.Cause.{TreeOrCause}
use Rattle.llb.specs.declared.vertex.Vertex.{Vertex}
use Rattle.plans.specs.Plan.{Problem, vertex_value, uses_at}
use Rattle.cachemounts.specs.declared.holds.Hold.{Hold}
use Rattle.board.specs.Play.{Run, Step, Claim, Settle, Abandon, Move, worker_of, step_of, value_at, claim_of, least, claimable, next, moved, go, go_all, begun, play, IsReplay}
use Rattle.board.specs.Legal.{vertex_out, settles, IsSettled, HasTree, HasCause, IsReady, IsNextClaim, Possible, GoesOn, IsLegal, StepsOn, held_caches}
use Rattle.board.proofs.ListLemmas.{IsLeast, least-some, least-none, claim_of-worker}
use Rattle.board.specs.Play.{vertex_of}
use Rattle.board.proofs.ReadyLemmas.{IsSound, Agrees, claimable-some, claimable-none, no_cause-is, cause-is}
use Rattle.cachemounts.specs.Holds.{is_holder}
use Rattle.cachemounts.proofs.HoldLemmas.{can_take-free}
use Rattle.board.specs.Readiness.{has_cause}
use Rattle.board.proofs.CacheLemmas.{nothing-stops}
use Rattle.board.proofs.StepLemmas.{moved_claim, moved_settle, moved_abandon, next-some, next-none, other-stays, Agrees-begun}
use Rattle.board.specs.declared.event.Happened.{Happened}
use Rattle.board.specs.declared.claim.ClaimOut.{ClaimOut}

-- a run whose history is legal, and whose state is that of its history
pub record IsRight (problem : Problem) (run : Run) : Type 0 where
  pub legal : IsLegal problem run.history
  pub agrees : Agrees problem run.history run.state

GoesOn-push : (problem : Problem) (before history : List Happened) (happened : Happened) → GoesOn problem before history → Possible problem (before ++ history) happened → GoesOn problem before (history ++ happened ∷ [])
GoesOn-push problem before [] happened goes possible = (rw append-nil at possible, tt)
GoesOn-push problem before (first ∷ history) happened goes possible =
    (goes.0, GoesOn-push problem (before ++ first ∷ []) history happened goes.1 (rw (append_assoc before (first ∷ []) history) possible))

moved-right : (problem : Problem) (run : Run) (step : Step) (o : Option Move) → IsSound problem → IsRight problem run → next problem run step ≡ o → IsRight problem (moved run o)
moved-right problem run step None sound right e = right
moved-right problem run step (Some move) sound right e =
    let m = next-some problem run step move sound right.agrees e in
    record { legal = GoesOn-push problem [] run.history move.happened right.legal m.possible; agrees = m.agrees }

pub go-right : (problem : Problem) (run : Run) (step : Step) → IsSound problem → IsRight problem run → IsRight problem (go problem run step)
go-right problem run step sound right = moved-right problem run step (next problem run step) sound right refl

pub go_all-right : (problem : Problem) (run : Run) (steps : List Step) → IsSound problem → IsRight problem run → IsRight problem (go_all problem run steps)
go_all-right problem run [] sound right = right
go_all-right problem run (step ∷ steps) sound right = go_all-right problem (go problem run step) steps sound (go-right problem run step sound right)

pub play-right : (problem : Problem) (steps : List Step) → IsSound problem → IsRight problem (play problem steps)
play-right problem steps sound = go_all-right problem (begun problem) steps sound (record { legal = tt; agrees = Agrees-begun problem })

-- what a board holds is right
pub replay-right : (problem : Problem) (run : Run) → IsSound problem → IsReplay problem run → IsRight problem run
replay-right problem run sound replay = subst (IsRight problem) replay (play-right problem (map step_of run.history) sound)

-- what a list of steps leaves of a right run is what the rules leave of its history
steps_on : (problem : Problem) (run : Run) (steps : List Step) → IsSound problem → IsRight problem run → StepsOn problem run.history steps (go_all problem run steps).history
steps_on problem run [] sound right = refl
steps_on problem run (step ∷ steps) sound right =
    by_move (next problem run step) refl (λ o e. steps_on problem (moved run o) steps sound (moved-right problem run step o sound right e))
  where
    by_move : (o : Option Move) → next problem run step ≡ o → ((p : Option Move) → next problem run step ≡ p → StepsOn problem (moved run p).history steps (go_all problem (moved run p) steps).history) → StepsOn problem run.history (step ∷ steps) (go_all problem (go problem run step) steps).history
    by_move None e rest = rw e (inr (next-none problem run step right.agrees e, rest None e))
    by_move (Some move) e rest =
        let m = next-some problem run step move sound right.agrees e in
        rw e (inl (move.happened, m.asked, m.possible, rest (Some move) e))

pub play-steps : (problem : Problem) (steps : List Step) → IsSound problem → StepsOn problem [] steps (play problem steps).history
play-steps problem steps sound = steps_on problem (begun problem) steps sound (record { legal = tt; agrees = Agrees-begun problem })

-- the replay goes on: one step more of a replay is a replay.
asked : (problem : Problem) (run : Run) (step : Step) (move : Move) → next problem run step ≡ Some move → step_of move.happened ≡ step
asked problem run (Claim worker) move e = (let m = moved_claim problem run worker (claimable problem run.state worker) move e in rw (← m.2) refl)
asked problem run (Settle worker given) move e =
    let m = moved_settle problem run.state given (claim_of worker run.state.claims) move e in
    rw (← m.3) (ap (λ w. Settle w given) (claim_of-worker worker run.state.claims m.0 m.1))
asked problem run (Abandon worker) move e =
    let m = moved_abandon run.state (claim_of worker run.state.claims) move e in
    rw (← m.2) (ap (λ w. Abandon w) (claim_of-worker worker run.state.claims m.0 m.1))

pub go_all-append : (problem : Problem) (run : Run) (steps more : List Step) → go_all problem run (steps ++ more) ≡ go_all problem (go_all problem run steps) more
go_all-append problem run [] more = refl
go_all-append problem run (step ∷ steps) more = go_all-append problem (go problem run step) steps more

pub map-append : {A B : Type 0} (f : A → B) (xs ys : List A) → map f (xs ++ ys) ≡ map f xs ++ map f ys
map-append f [] ys = refl
map-append f (x ∷ xs) ys = ap (λ zs. f x ∷ zs) (map-append f xs ys)

map-push : (history : List Happened) (happened : Happened) → map step_of (history ++ happened ∷ []) ≡ map step_of history ++ step_of happened ∷ []
map-push [] happened = refl
map-push (first ∷ history) happened = ap (λ steps. step_of first ∷ steps) (map-push history happened)

pub go-replay : (problem : Problem) (run : Run) (step : Step) → IsReplay problem run → IsReplay problem (go problem run step)
go-replay problem run step replay = by_move (next problem run step) refl
  where
    by_move : (o : Option Move) → next problem run step ≡ o → IsReplay problem (moved run o)
    by_move None e = replay
    by_move (Some move) e =
        let split : play problem (map step_of (run.history ++ move.happened ∷ [])) ≡ go problem (play problem (map step_of run.history)) (step_of move.happened) =
        ap (play problem) (map-push run.history move.happened) ∙ go_all-append problem (begun problem) (map step_of run.history) (step_of move.happened ∷ []) in
        let here : go problem (play problem (map step_of run.history)) (step_of move.happened) ≡ go problem run step =
        ap (λ r. go problem r (step_of move.happened)) replay ∙ ap (go problem run) (asked problem run step move e) in
        split ∙ (here ∙ ap (moved run) e)

-- each settled value is the vertex's value
pub replay-value : (problem : Problem) (run : Run) → IsSound problem → IsReplay problem run → (vertex : ℕ) (value : TreeOrCause) → value_at run.state.settled vertex ≡ Some value → vertex_value problem vertex ≡ Some value
replay-value problem run sound replay vertex value e =
    by_test (list_any (settles vertex) run.history) (sym ((replay-right problem run sound replay).agrees.settled vertex) ∙ e)
  where
    by_test : (b : Bool) → cond b (vertex_value problem vertex) None ≡ Some value → vertex_value problem vertex ≡ Some value
    by_test true f = f
    by_test false f = cc

-- a problem whose target is in its graph
abbrev pub HasTarget : Problem → Type 0
HasTarget problem = problem.target < length problem.vertices

tree_or_cause : (problem : Problem) (vertex : ℕ) (o : Option TreeOrCause) → vertex_value problem vertex ≡ o → is_some o ≡ true → ¬ HasCause problem vertex → HasTree problem vertex
tree_or_cause problem vertex (Some (Ok tree)) e s none = (tree, e)
tree_or_cause problem vertex (Some (Err cause)) e s none = absurd (none (cause, e))
tree_or_cause problem vertex None e s none = cc

-- where no worker has a vertex out, nobody holds a cache
held_by_none : (holds : List Hold) → ((worker : ℕ) → is_holder worker holds ≡ false) → holds ≡ []
held_by_none [] none = refl
held_by_none (hold ∷ holds) none =
    let parts = or_parts (hold.holder == hold.holder) (is_holder hold.holder holds) (none hold.holder) in
    absurd (both_ways _ parts.0 (eq-eqb hold.holder hold.holder refl))

pub no_holders : (problem : Problem) (run : Run) → IsRight problem run → ((worker : ℕ) → vertex_out run.history worker ≡ None) → held_caches problem run.history ≡ []
no_holders problem run right idle = held_by_none (held_caches problem run.history) (λ worker. right.agrees.held.owners worker (idle worker))

-- it never gets stuck: where no claim is out, the target isn't settled and no vertex is settled with a cause, some vertex is ready.
pub never-stuck : (problem : Problem) (run : Run) → IsSound problem → HasTarget problem → IsRight problem run → ((worker : ℕ) → vertex_out run.history worker ≡ None) → ¬ IsSettled run.history problem.target → ((other : ℕ) → IsSettled run.history other → ¬ HasCause problem other) → (vertex : ℕ) × IsReady problem run.history vertex
never-stuck problem run sound has_target right idle target_open no_cause = by_least (least waits (suc problem.target)) refl
  where
    waits : ℕ → Bool
    waits vertex = not (list_any (settles vertex) run.history)

    settled_below : (k : ℕ) → IsLeast waits (suc problem.target) k → (input : ℕ) → input < k → IsSettled run.history input × HasTree problem input
    settled_below k first input l =
        let settled : IsSettled run.history input = not-false (list_any (settles input) run.history) (first.below input l) in
        (settled, tree_or_cause problem input (vertex_value problem input) refl (right.agrees.valued input settled) (no_cause input settled))

    ready_at : (k : ℕ) → IsLeast waits (suc problem.target) k → (v : Vertex) → slice_get problem.vertices k ≡ Some v → IsReady problem run.history k
    ready_at k first v there = record {
      unclaimed = λ worker h. (let f : None ≡ Some k = sym (idle worker) ∙ h in cc);
      unsettled = λ s. both_ways (list_any (settles k) run.history) (not-true (list_any (settles k) run.history) first.passes) s;
      inputs = (v, there, λ i d l. settled_below k first (slice_index_or v.inputs i d) (sound.below k v there i d l));
      caches = rw (no_holders problem run right idle) (can_take-free (uses_at problem k));
      goes_on = nothing-stops problem run.history target_open no_cause k;
    }

    within : (k : ℕ) → IsLeast waits (suc problem.target) k → k < length problem.vertices
    within k first = (let l : k < suc problem.target = first.within in omega (arith, l, has_target))

    by_vertex : (k : ℕ) → IsLeast waits (suc problem.target) k → ((v : Vertex) × (k < length problem.vertices) × (slice_get problem.vertices k ≡ Some v) × (slice_index_or problem.vertices k v ≡ v)) ⊎ ((length problem.vertices ≤ k) × (slice_get problem.vertices k ≡ None)) → (vertex : ℕ) × IsReady problem run.history vertex
    by_vertex k first (inl there) = (k, ready_at k first there.0 there.2)
    by_vertex k first (inr past) = (let l : k < length problem.vertices = within k first in absurd (omega (arith, l, past.0)))

    by_least : (o : Option ℕ) → least waits (suc problem.target) ≡ o → (vertex : ℕ) × IsReady problem run.history vertex
    by_least None e = absurd (target_open (not-false (list_any (settles problem.target) run.history) (least-none waits (suc problem.target) e problem.target (omega arith))))
    by_least (Some k) e = by_vertex k (least-some waits (suc problem.target) k e) (slice_get_cases problem.vertices k).1

pub idle_all : (problem : Problem) (run : Run) → IsRight problem run → run.state.claims ≡ [] → (worker : ℕ) → vertex_out run.history worker ≡ None
idle_all problem run right none worker = sym (right.agrees.claims worker) ∙ ap (λ claims. vertex_of (claim_of worker claims)) none

-- what a worker's claim gives: the next vertex, or none where it may claim none
pub replay-claims : (problem : Problem) (run : Run) (worker : ℕ) → IsSound problem → IsReplay problem run → IsNextClaim problem run.history worker (claimable problem run.state worker)
replay-claims problem run worker sound replay = by_vertex (claimable problem run.state worker) refl
  where
    agrees : Agrees problem run.history run.state
    agrees = (replay-right problem run sound replay).agrees

    by_vertex : (o : Option ℕ) → claimable problem run.state worker ≡ o → IsNextClaim problem run.history worker o
    by_vertex (Some vertex) e = claimable-some problem run.history run.state agrees worker vertex e
    by_vertex None e = claimable-none problem run.history run.state agrees worker e

-- where no worker has a vertex out and none is ready, the target is settled or some vertex is settled with a cause
pub idle-ends : (problem : Problem) (run : Run) → IsSound problem → HasTarget problem → IsRight problem run → ((worker : ℕ) → vertex_out run.history worker ≡ None) → ((vertex : ℕ) → ¬ IsReady problem run.history vertex) → IsSettled run.history problem.target ⊎ ((vertex : ℕ) × IsSettled run.history vertex × HasCause problem vertex)
idle-ends problem run sound has_target right idle none = by_test (list_any (settles problem.target) run.history) refl (list_any has_cause run.state.settled) refl
  where
    by_test : (b : Bool) → list_any (settles problem.target) run.history ≡ b → (d : Bool) → list_any has_cause run.state.settled ≡ d → IsSettled run.history problem.target ⊎ ((vertex : ℕ) × IsSettled run.history vertex × HasCause problem vertex)
    by_test true e d f = inl e
    by_test false e true f = inr (cause-is problem run.history run.state right.agrees f)
    by_test false e false f =
        let ready = never-stuck problem run sound has_target right idle (both_ways (list_any (settles problem.target) run.history) e) (no_cause-is problem run.history run.state right.agrees f) in
        absurd (none ready.0 ready.1)

-- a step of one worker leaves the claim of another one out
pub others-leave : (problem : Problem) (run : Run) (step : Step) (worker : ℕ) (claim : ClaimOut) → claim_of worker run.state.claims ≡ Some claim → worker_of step ≢ worker → claim_of worker (go problem run step).state.claims ≡ Some claim
others-leave problem run step worker claim out other = by_move (next problem run step) refl
  where
    by_move : (o : Option Move) → next problem run step ≡ o → claim_of worker (moved run o).state.claims ≡ Some claim
    by_move None e = out
    by_move (Some move) e = other-stays problem run step move worker e other ∙ out
