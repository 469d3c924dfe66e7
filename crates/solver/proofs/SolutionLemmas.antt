-- What a board has settled on which no claim is out and no vertex is ready.
use Rattle.std.proofs.Common.{◌≡◌, inl, inr, ℕ, ◌<◌, ◌≤◌, Bool, List, [], length, Option, Some, None, Ok, Err, true, false, cond, is_some, refl, ap, sym, ◌∙◌, subst, arith}
use Rattle.std.proofs.lemmas.Bool.{cases_lt, or_parts, both_ways}
use Rattle.std.specs.List.{list_any}
use Rattle.std.proofs.lemmas.List.{get_or_past}
use Rattle.plans.specs.Plan.{Problem, IsValue, NeedsAll, vertex_value, line_at, HasLinesInOrder}
use Rattle.trees.specs.Cause.{TreeOrCause}
use Rattle.cachemounts.specs.declared.content.Content.{Content}
use Rattle.board.specs.Board.{AreLeft}
use Rattle.board.specs.Leaving.{Leaving, AreLeftByRuns}
use Rattle.board.specs.Legal.{IsReady, IsNextClaim, settles, IsSettled, HasTree, HasCause}
use Rattle.board.specs.Play.{Run, value_at, IsReplay}
use Rattle.board.specs.Problem.{IsProblem}
use Rattle.board.specs.Readiness.{has_tree, has_cause}
use Rattle.board.proofs.PlayLemmas.{IsRight, replay-right, replay-value, idle-ends, idle_all}
use Rattle.board.proofs.SoundLemmas.{sound}
use Rattle.board.proofs.LineLemmas.{least-of-all}
use Rattle.board.proofs.ProblemLemmas.{value-within}
use Rattle.solver.specs.Solution.{IsLeastAtEnd, IsFirst}
use Rattle.solver.specs.PrivateSolution.{IsLeastSettled}
use Rattle.solver.specs.declared.solution.Failure.{Failure}

right-is : (problem : Problem) (run : Run) → IsProblem problem → IsReplay problem run → IsRight problem run
right-is problem run is replay = replay-right problem run (sound problem is) replay

-- what a board has settled is the vertex's value
pub settled-value : (problem : Problem) (run : Run) (vertex : ℕ) (value : TreeOrCause) → IsProblem problem → IsReplay problem run → value_at run.state.settled vertex ≡ Some value → IsValue problem vertex value
settled-value problem run vertex value is replay e = replay-value problem run (sound problem is) replay vertex value e

no_value : (o : Option TreeOrCause) → has_tree o ≡ false → has_cause o ≡ false → is_some o ≡ false
no_value None tree cause = refl
no_value (Some (Ok found)) tree cause = cc
no_value (Some (Err why)) tree cause = cc

no_tree : (o : Option TreeOrCause) → is_some o ≡ false → has_tree o ≡ false
no_tree None e = refl
no_tree (Some value) e = cc

-- a vertex that the history settles is settled with its value
settled-is : (problem : Problem) (run : Run) (vertex : ℕ) → IsRight problem run → IsSettled run.history vertex → value_at run.state.settled vertex ≡ vertex_value problem vertex
settled-is problem run vertex right settled = right.agrees.settled vertex ∙ ap (λ b. cond b (vertex_value problem vertex) None) settled

-- where it is over and the target has no tree, some vertex is settled with a cause
pub cause-found : (problem : Problem) (run : Run) → IsProblem problem → IsReplay problem run → run.state.claims ≡ [] → ((vertex : ℕ) → ¬ IsReady problem run.history vertex) → has_tree (value_at run.state.settled problem.target) ≡ false → ((vertex : ℕ) → vertex < length problem.vertices → has_cause (value_at run.state.settled vertex) ≡ false) → ⊥
cause-found problem run is replay idle ready tree none =
    elim (idle-ends problem run (sound problem is) is.target right (idle_all problem run right idle) ready) [
      | inl settled ↦
          let known : is_some (value_at run.state.settled problem.target) ≡ true = ap is_some (settled-is problem run problem.target right settled) ∙ right.agrees.valued problem.target settled in
          both_ways _ (no_value (value_at run.state.settled problem.target) tree (none problem.target is.target)) known
      | inr found ↦ failed found.0 found.1 found.2
    ]
  where
    right : IsRight problem run
    right = right-is problem run is replay

    failed : (vertex : ℕ) → IsSettled run.history vertex → HasCause problem vertex → ⊥
    failed vertex settled cause =
        let e : value_at run.state.settled vertex ≡ Some (Err cause.0) = settled-is problem run vertex right settled ∙ cause.1 in
        elim (cases_lt vertex (length problem.vertices)) [
          | inl within ↦
              let no : has_cause (value_at run.state.settled vertex) ≡ false = none vertex within in
              let f : true ≡ false = ap has_cause (sym e) ∙ no in
              cc
          | inr past ↦
              let nothing : value_at run.state.settled vertex ≡ None = get_or_past run.state.settled vertex None (omega (arith, right.agrees.long, past)) in
              let f : None ≡ Some (Err cause.0) = sym nothing ∙ e in
              cc
        ]

-- what is settled, and with a cause
cause_settled : (problem : Problem) (run : Run) (vertex : ℕ) → IsProblem problem → IsReplay problem run → IsSettled run.history vertex → HasCause problem vertex
    → has_cause (value_at run.state.settled vertex) ≡ true
cause_settled problem run vertex is replay settled cause =
    ap has_cause (settled-is problem run vertex (right-is problem run is replay) settled ∙ cause.1)

-- a failure of least line among those that a board has settled
least_below : (problem : Problem) (run : Run) (failure : Failure) → IsProblem problem → IsReplay problem run → IsLeastSettled problem run.state.settled (length problem.vertices) failure
    → (vertex : ℕ) → IsSettled run.history vertex → HasCause problem vertex → line_at problem failure.vertex ≤ line_at problem vertex
least_below problem run failure is replay least vertex settled cause =
    let within : vertex < length problem.vertices = value-within problem vertex (ap is_some cause.1) in
    let low : failure.place ≤ line_at problem vertex = least.least vertex within (cause_settled problem run vertex is replay settled cause) in
    let own = least.place in
    omega (arith, low, own)

-- if the target isn't settled with a tree on a board, then neither in its history
still-unbuilt : (problem : Problem) (run : Run) → IsProblem problem → IsReplay problem run → has_tree (value_at run.state.settled problem.target) ≡ false
    → ¬ (IsSettled run.history problem.target × HasTree problem problem.target)
still-unbuilt problem run is replay tree built =
    both_ways _ tree (ap has_tree (settled-is problem run problem.target (right-is problem run is replay) built.0 ∙ built.1.1))

-- where no claim is out and no vertex is ready, and the target has no tree, a failure of least line among those that are settled
pub least-at-end : (problem : Problem) (run : Run) (failure : Failure) → IsProblem problem → IsReplay problem run → run.state.claims ≡ [] → ((vertex : ℕ) → ¬ IsReady problem run.history vertex)
    → has_tree (value_at run.state.settled problem.target) ≡ false → IsLeastSettled problem run.state.settled (length problem.vertices) failure
    → IsLeastAtEnd problem failure.vertex
least-at-end problem run failure is replay idle ready tree least = record {
  history = run.history;
  legal = right.legal;
  idle = idle_all problem run right idle;
  none_ready = ready;
  unbuilt = still-unbuilt problem run is replay tree;
  settled = is_settled (list_any (settles failure.vertex) run.history) refl (sym (right.agrees.settled failure.vertex) ∙ least.settled_so);
  least = least_below problem run failure is replay least;
}
  where
    right : IsRight problem run
    right = right-is problem run is replay

    is_settled : (b : Bool) → list_any (settles failure.vertex) run.history ≡ b → cond (list_any (settles failure.vertex) run.history) (vertex_value problem failure.vertex) None ≡ Some (Err failure.cause) → IsSettled run.history failure.vertex
    is_settled true e value = e
    is_settled false e value = (let f : None ≡ Some (Err failure.cause) = rw e at value in cc)

-- and where the target has no tree, but needs every vertex, and lines are in order, no vertex that fails has a lesser line
pub first-is : (problem : Problem) (run : Run) (failure : Failure) → IsProblem problem → IsReplay problem run → run.state.claims ≡ [] → ((vertex : ℕ) → ¬ IsReady problem run.history vertex)
    → has_tree (value_at run.state.settled problem.target) ≡ false → IsLeastSettled problem run.state.settled (length problem.vertices) failure
    → NeedsAll problem → HasLinesInOrder problem → IsFirst problem failure.place
first-is problem run failure is replay idle ready tree least needs in_order other why fails =
    let first = least-of-all problem run (sound problem is) is right needs in_order (idle_all problem run right idle) ready (still-unbuilt problem run is replay tree) failure.vertex (least_below problem run failure is replay least) other (why, fails) in
    let own = least.place in
    omega (arith, first, own)
  where
    right : IsRight problem run
    right = right-is problem run is replay

-- where a vertex may be claimed, the target isn't settled with a tree
pub next-unbuilt : (problem : Problem) (run : Run) (worker vertex : ℕ) → IsProblem problem → IsReplay problem run → IsNextClaim problem run.history worker (Some vertex) → has_tree (value_at run.state.settled problem.target) ≡ false
next-unbuilt problem run worker vertex is replay next =
    let right = right-is problem run is replay in
    no_tree (value_at run.state.settled problem.target) (ap is_some (right.agrees.settled problem.target) ∙ (or_parts _ _ next.ready.goes_on).0)

-- where no claim is out and a worker may claim nothing, no vertex is ready
pub none-ready : (problem : Problem) (run : Run) (worker : ℕ) → IsProblem problem → IsReplay problem run → run.state.claims ≡ [] → IsNextClaim problem run.history worker None → (vertex : ℕ) → ¬ IsReady problem run.history vertex
none-ready problem run worker is replay idle (inl busy) = absurd (busy (idle_all problem run (right-is problem run is replay) idle worker))
none-ready problem run worker is replay idle (inr none) = none

-- contents of caches on which nothing has happened are left as they were
pub left-same : (problem : Problem) (first contents : List Content) → contents ≡ first → AreLeft problem first contents
unfolding AreLeft
left-same problem first contents same = subst (AreLeft problem first) (sym same) ([], tt, λ id slot. refl)

-- and no settle gave anything back
pub runs-same : (leaves : Leaving) (problem : Problem) (first contents : List Content) → contents ≡ first → AreLeftByRuns leaves problem first contents
unfolding AreLeftByRuns
runs-same leaves problem first contents same = subst (AreLeftByRuns leaves problem first) (sym same) ([], tt, (λ id slot. refl), tt)
