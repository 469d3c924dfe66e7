-- A plan's problem is sound, and what the machine gives a worker is a claim of the problem.
use Rattle.std.proofs.Common.{◌≡◌, subst, ℕ, ◌+◌, ◌<◌, true, not, cond, List, [], ◌∷◌, length, map, Option, Some, None, is_some, Ok, refl, sym, ap, ◌∙◌, arith}
use Rattle.std.specs.Prelude.{slice_get, slice_set}
use Rattle.std.specs.List.{slice_index_or}
use Rattle.llb.specs.declared.op.Op.{Op}
use Rattle.llb.specs.declared.op.Op.TheVariants.{Source as SourceOp, Exec as ExecOp, Copy as CopyOp, MakeDirs as MakeDirsOp, Merge as MergeOp}
use Rattle.std.specs.Prelude.{IsTrue}
use Rattle.std.specs.Option.{option_map_or}
use Rattle.std.proofs.lemmas.Bool.{and_parts}
use Rattle.runs.specs.Run.{ids_differ, ids_of, mounts_fit}
use Rattle.llb.specs.WellFormed.{is_well_formed_on, is_well_formed_exec, is_environment, targets_of}
use Rattle.cachemounts.specs.Holds.{of_holder, is_holder, can_take}
use Rattle.plans.specs.Value.{trees_at}
use Rattle.trees.specs.TreeMap.{TreeMap}
use Rattle.trees.specs.Cause.{TreeOrCause}
use Rattle.llb.specs.declared.vertex.Vertex.{Vertex}
use Rattle.plans.specs.Plan.{Problem, vertex_value, caches_of, uses_at}
use Rattle.board.specs.Problem.{IsProblem, values_in}
use Rattle.std.proofs.lemmas.List.Sums.{sum_by-set}
use Rattle.std.proofs.Common.{◌≢◌, ◌==◌, Bool, false}
use Rattle.cachemounts.specs.Holds.{is_lawful}
use Rattle.board.specs.Claim.{claim_out}
use Rattle.board.proofs.ProblemLemmas.{value-there, valued-there}
use Rattle.board.proofs.StepLemmas.{moved_claim, moved_settle, moved_abandon, claim-free}
use Rattle.board.proofs.ListLemmas.{claim_of-push, claim_of-without}
use Rattle.board.specs.Play.{Step, Claim, Settle, Abandon, Move, next, moved, go, claim_move, without, Run, IsReplay, value_at, claim_of, claimable, unsettled_count}
use Rattle.board.specs.Legal.{vertex_out, IsNextClaim}
use Rattle.board.specs.Play.{vertex_of}
use Rattle.board.proofs.ReadyLemmas.{IsSound, Agrees, settled-is, claimable-some}
use Rattle.board.proofs.PlayLemmas.{replay-value, replay-right, replay-claims, no_holders, idle_all}
use Rattle.std.proofs.lemmas.Option.{slice_get_within}
use Rattle.board.specs.PrivateClaim.{tree_value, AreInputs}
use Rattle.board.specs.Claim.{ClaimValue, IsClaim, IsOut, IsResult, IsStateOf}
use Rattle.board.specs.declared.claim.ClaimOut.{ClaimOut}

-- a problem that can be solved is sound
pub sound : (problem : Problem) → IsProblem problem → IsSound problem
sound problem is = record {
  below = is.vertices.after;
  valued = λ vertex v there all. valued-there problem vertex v is there all;
  differ = λ vertex. differ_at vertex (slice_get problem.vertices vertex) refl;
}
  where
    differ_of : (op : Op) (inputs : ℕ) → IsTrue (is_well_formed_on op inputs) → ids_differ (ids_of (caches_of op)) ≡ true
    differ_of (SourceOp source) inputs e = refl
    differ_of (CopyOp files) inputs e = refl
    differ_of (MakeDirsOp path) inputs e = refl
    differ_of MergeOp inputs e = refl
    differ_of (ExecOp exec) inputs e =
        let exec_is = (and_parts (inputs == length exec.binds + 1) (is_well_formed_exec exec) e).1 in
        let rest = (and_parts (not (length exec.words == 0)) _ exec_is).1 in
        let mounts = (and_parts (is_environment exec.env) _ rest).1 in
        (and_parts (mounts_fit (targets_of exec)) (ids_differ (ids_of exec.caches)) mounts).1

    differ_at : (vertex : ℕ) (o : Option Vertex) → slice_get problem.vertices vertex ≡ o → ids_differ (ids_of (uses_at problem vertex)) ≡ true
    differ_at vertex None e = rw e refl
    differ_at vertex (Some v) e = rw e (differ_of v.op (length v.inputs) (is.vertices.well_formed vertex v e))

trees-are : (problem : Problem) (settled : List (Option TreeOrCause)) → ((vertex : ℕ) (value : TreeOrCause) → value_at settled vertex ≡ Some value → vertex_value problem vertex ≡ Some value) → (inputs : List ℕ) (trees : List TreeMap) → map tree_value trees ≡ map (value_at settled) inputs → trees_at (values_in problem) inputs ≡ Some trees
unfolding vertex_value
trees-are problem settled right [] [] e = refl
trees-are problem settled right [] (tree ∷ trees) e = cc
trees-are problem settled right (input ∷ inputs) [] e = cc
trees-are problem settled right (input ∷ inputs) (tree ∷ trees) e =
    let here : value_at settled input ≡ Some (Ok tree) = cc in
    let there : map tree_value trees ≡ map (value_at settled) inputs = cc in
    let worth : slice_index_or (values_in problem) input None ≡ Some (Ok tree) = right input (Ok tree) here in
    rw (worth, trees-are problem settled right inputs trees there) refl

-- what a board claims for a worker is a claim of its problem
pub claim-is : (problem : Problem) (run : Run) (worker vertex at : ℕ) (trees caches : List TreeMap) → IsProblem problem → IsReplay problem run → AreInputs problem.vertices run.state.settled vertex trees → length caches ≡ length (uses_at problem vertex) → IsClaim problem (record { worker = worker; vertex = vertex; at = at; inputs = trees; caches = caches })
claim-is problem run worker vertex at trees caches plan replay inputs count = record {
  vertex = inputs.v;
  there = inputs.there;
  inputs = trees-are problem run.state.settled (replay-value problem run (sound problem plan) replay) inputs.v.inputs trees inputs.settled_so;
  caches = count ∙ ap (λ o. length (option_map_or (λ (v : Vertex). caches_of v.op) o [])) inputs.there;
}

-- the result of a claim is its vertex's value
pub result-is : (problem : Problem) (claim : ClaimValue) (value : TreeOrCause) → IsProblem problem → IsClaim problem claim → IsResult problem claim value → vertex_value problem claim.vertex ≡ Some value
result-is problem claim value plan claimed result =
    value-there problem claim.vertex claimed.vertex claim.inputs plan claimed.there claimed.inputs ∙ result claimed.vertex claimed.there

-- a claim's vertex is one of those of the settled values
pub claim-within : (problem : Problem) (run : Run) (claim : ClaimValue) → IsProblem problem → IsReplay problem run → IsClaim problem claim → claim.vertex < length run.state.settled
claim-within problem run claim plan replay claimed =
    rw (replay-right problem run (sound problem plan) replay).agrees.long (slice_get_within problem.vertices claim.vertex claimed.vertex claimed.there)

-- a vertex whose claim is out isn't settled
pub claim-unsettled : (problem : Problem) (run : Run) (claim : ClaimValue) → IsProblem problem → IsReplay problem run → IsOut run.state claim → value_at run.state.settled claim.vertex ≡ None
claim-unsettled problem run claim plan replay out =
    let agrees = (replay-right problem run (sound problem plan) replay).agrees in
    let holds : vertex_out run.history claim.worker ≡ Some claim.vertex = sym (agrees.claims claim.worker) ∙ ap vertex_of out in
    let pending = agrees.pending claim.worker claim.vertex holds in
    agrees.settled claim.vertex ∙ rw pending.unsettled refl

-- a settle leaves one vertex fewer that isn't settled
pub unsettled-fewer : (settled : List (Option TreeOrCause)) (vertex : ℕ) (value : TreeOrCause) → vertex < length settled → value_at settled vertex ≡ None → unsettled_count (slice_set settled vertex (Some value)) < unsettled_count settled
unsettled-fewer settled vertex value within none =
    let e = sum_by-set (λ v. cond (not (is_some v)) 1 0) settled vertex (Some value) None within in
    let f : unsettled_count (slice_set settled vertex (Some value)) + 1 ≡ unsettled_count settled + 0 = rw none at e in
    omega (arith, f)

-- what a board holds is what its history says
pub replay-state : (problem : Problem) (run : Run) → IsProblem problem → IsReplay problem run → IsStateOf problem run.history run.state
replay-state problem run plan replay = record {
  claims = agrees.claims;
  settled = λ vertex. (λ e. sym (settled-is problem run.history run.state agrees vertex) ∙ e, λ e. settled-is problem run.history run.state agrees vertex ∙ e);
  holds = agrees.holds;
}
  where
    agrees : Agrees problem run.history run.state
    agrees = (replay-right problem run (sound problem plan) replay).agrees

-- a claim that is out holds as many caches as its vertex uses
pub claim-count : (problem : Problem) (run : Run) (claim : ClaimValue) → IsProblem problem → IsReplay problem run → IsOut run.state claim → length (of_holder claim.worker run.state.holds) ≡ length (uses_at problem claim.vertex)
claim-count problem run claim plan replay out =
    let agrees = (replay-right problem run (sound problem plan) replay).agrees in
    let holds : vertex_out run.history claim.worker ≡ Some claim.vertex = sym (agrees.claims claim.worker) ∙ ap vertex_of out in
    ap (λ holds. length (of_holder claim.worker holds)) agrees.holds ∙ agrees.held.counts claim.worker claim.vertex holds

-- a worker that may claim a vertex holds no cache, and the vertex's caches can be taken together.
pub claim-can : (problem : Problem) (run : Run) (worker vertex : ℕ) → IsProblem problem → IsReplay problem run → claimable problem run.state worker ≡ Some vertex → (is_holder worker run.state.holds ≡ false) × (can_take run.state.holds (uses_at problem vertex) ≡ true) × (ids_differ (ids_of (uses_at problem vertex)) ≡ true)
claim-can problem run worker vertex plan replay can =
    let right = replay-right problem run (sound problem plan) replay in
    let agrees = right.agrees in
    let is_next = claimable-some problem run.history run.state agrees worker vertex can in
    (ap (is_holder worker) agrees.holds ∙ agrees.held.owners worker is_next.idle, ap (λ holds. can_take holds (uses_at problem vertex)) agrees.holds ∙ is_next.ready.caches, (sound problem plan).differ vertex)

-- what a board gives a worker, whatever list says it, is what the rules give
pub next_claim-is : (problem : Problem) (run : Run) (worker : ℕ) (o : Option ℕ) → IsProblem problem → IsReplay problem run → o ≡ claimable problem run.state worker → IsNextClaim problem run.history worker o
next_claim-is problem run worker o plan replay e =
    subst (IsNextClaim problem run.history worker) (sym e) (replay-claims problem run worker (sound problem plan) replay)

-- where no claim is out, nobody holds a cache
pub idle-free : (problem : Problem) (run : Run) → IsProblem problem → IsReplay problem run → run.state.claims ≡ [] → run.state.holds ≡ []
idle-free problem run plan replay none =
    let right = replay-right problem run (sound problem plan) replay in
    right.agrees.holds ∙ no_holders problem run right (idle_all problem run right none)

-- no two caches that are held clash, whatever happened
pub replay-lawful : (problem : Problem) (run : Run) → IsProblem problem → IsReplay problem run → is_lawful run.state.holds ≡ true
replay-lawful problem run plan replay =
    let agrees = (replay-right problem run (sound problem plan) replay).agrees in
    subst (λ holds. is_lawful holds ≡ true) (sym agrees.holds) agrees.held.lawful

not_yet : (at count : ℕ) → at < count → at ≢ count
not_yet at count l e = absurd (omega (arith, l, e))

ended_by : (claims : List ClaimOut) (gone : ℕ) (claim : ClaimValue) → (claim_of claim.worker claims ≢ Some (claim_out claim)) → claim_of claim.worker (without gone claims) ≢ Some (claim_out claim)
ended_by claims gone claim out e = by_test (gone == claim.worker) refl
  where
    by_test : (b : Bool) → (gone == claim.worker) ≡ b → ⊥
    by_test true t = (let f : None ≡ Some (claim_out claim) = rw t at (sym (claim_of-without claim.worker gone claims) ∙ e) in cc)
    by_test false t = out (rw t at (sym (claim_of-without claim.worker gone claims) ∙ e))

-- a claim that has ended is out no more, whatever happens: also where its worker has claimed its vertex again since.
pub ended-stays : (problem : Problem) (run : Run) (step : Step) (claim : ClaimValue) → claim.at < length run.history → ¬ IsOut run.state claim → ¬ IsOut (go problem run step).state claim
ended-stays problem run step claim before out = by_move step (next problem run step) refl
  where
    by_move : (step : Step) (o : Option Move) → next problem run step ≡ o → ¬ IsOut (moved run o).state claim
    by_move step None e f = out f
    by_move (Claim by) (Some move) e f = by_test (by == claim.worker) refl
      where
        m : (vertex : ℕ) × (claimable problem run.state by ≡ Some vertex) × (claim_move problem run by vertex ≡ move)
        m = moved_claim problem run by (claimable problem run.state by) move e

        new : ClaimOut
        new = record { worker = by; vertex = m.0; at = length run.history }

        now : cond (by == claim.worker) (Some new) (claim_of claim.worker run.state.claims) ≡ Some (claim_out claim)
        now = sym (claim_of-push claim.worker run.state.claims new (claim-free problem run.state by m.0 m.1)) ∙ (ap (λ v. claim_of claim.worker v.state.claims) m.2 ∙ f)

        by_test : (b : Bool) → (by == claim.worker) ≡ b → ⊥
        by_test true t =
            let g : Some new ≡ Some (claim_out claim) = rw t at now in
            let same : new ≡ claim_out claim = cc in
            not_yet claim.at (length run.history) before (sym (ap (λ h. h.at) same))
        by_test false t = out (rw t at now)
    by_move (Settle by given) (Some move) e f =
        let m = moved_settle problem run.state given (claim_of by run.state.claims) move e in
        ended_by run.state.claims m.0.worker claim out (ap (λ v. claim_of claim.worker v.state.claims) m.3 ∙ f)
    by_move (Abandon by) (Some move) e f =
        let m = moved_abandon run.state (claim_of by run.state.claims) move e in
        ended_by run.state.claims m.0.worker claim out (ap (λ v. claim_of claim.worker v.state.claims) m.2 ∙ f)
