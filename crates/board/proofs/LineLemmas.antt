-- What stops a vertex by its line, and which failure an idle board has settled.
use Rattle.std.proofs.Common.{◌≡◌, ℕ, zero, suc, ◌<◌, ◌≤◌, Bool, true, false, not, ◌&&◌, cond, ◌⊎◌, inl, inr, List, [], ◌∷◌, length, Option, Some, None, is_some, Ok, Err, refl, sym, ap, ◌∙◌, subst, arith}
use Rattle.std.specs.Prelude.{nat_lt, slice_get}
use Rattle.std.specs.List.{list_any, slice_index_or}
use Rattle.std.proofs.lemmas.Bool.{cases_lt, cases_eq, both_ways, and_parts, and_from, and_left, and_right, or_from, or_left, or_right, or_cases, not-true, not_from_false, lt-ltb, ltb-true, ltb-false, le-ltb, true_from_ne_false}
use Rattle.std.proofs.lemmas.List.{get_or_past}
use Rattle.std.proofs.lemmas.Option.{slice_get_cases}
use Rattle.trees.specs.Cause.{TreeOrCause}
use Rattle.llb.specs.declared.vertex.Vertex.{Vertex}
use Rattle.plans.specs.Plan.{Problem, vertex_value, uses_at, line_at, HasLinesInOrder, NeedsAll}
use Rattle.plans.specs.Value.{tree_of}
use Rattle.plans.proofs.NeedsLaws.{treeless}
use Rattle.plain.specs.Marks.{IsPath}
use Rattle.llb.specs.Reach.{HasInput}
use Rattle.cachemounts.proofs.HoldLemmas.{can_take-free}
use Rattle.board.specs.Readiness.{has_cause, any_below, stops}
use Rattle.board.specs.Play.{Run, value_at, least}
use Rattle.board.specs.PrivateFrontier.{comes_before, IsFailedLine}
use Rattle.board.specs.Problem.{IsProblem}
use Rattle.board.specs.Legal.{vertex_out, settles, IsSettled, HasTree, HasCause, IsReady, settled_by}
use Rattle.board.proofs.CacheLemmas.{has_cause-is, any_below-none}
use Rattle.board.proofs.ListLemmas.{IsLeast, least-some, least-none}
use Rattle.board.proofs.ReadyLemmas.{IsSound}
use Rattle.board.proofs.ProblemLemmas.{value-within, inputs-have-trees}
use Rattle.board.proofs.PlayLemmas.{IsRight, no_holders, idle-ends}
use Rattle.board.specs.declared.event.Happened.{Happened}

-- a number below the bound that passes the test is found
any_below-some : (test : ℕ → Bool) (n k : ℕ) → k < n → test k ≡ true → any_below test n ≡ true
any_below-some test zero k l e = absurd (omega (arith, l))
any_below-some test (suc n) k l e = elim (cases_eq k n) [
  | inl same ↦
      let here : test n ≡ true = subst (λ m. test m ≡ true) same e in
      or_right (any_below test n) (test n) here
  | inr other ↦ or_left (any_below test n) (test n) (any_below-some test n k (omega (arith, l, other)) e)
]

-- and what is found passes it
any_below-is : (test : ℕ → Bool) (n : ℕ) → any_below test n ≡ true → (k : ℕ) × (k < n) × (test k ≡ true)
any_below-is test zero e = cc
any_below-is test (suc n) e = elim (or_cases (any_below test n) (test n) e) [
  | inl found ↦ (let k = any_below-is test n found in (k.0, (let l = k.1 in omega (arith, l)), k.2))
  | inr here ↦ (n, omega arith, here)
]

-- a vertex that is settled with a cause
settled_cause : (b : Bool) (value : Option TreeOrCause) → has_cause (cond b value None) ≡ true → (b ≡ true) × (has_cause value ≡ true)
settled_cause true value e = (refl, e)
settled_cause false value e = cc

cause_settled : (b : Bool) (value : Option TreeOrCause) → b ≡ true → has_cause value ≡ true → has_cause (cond b value None) ≡ true
cause_settled true value e f = f
cause_settled false value e f = cc

is_settled_cause : (problem : Problem) (history : List Happened) (vertex : ℕ) → has_cause (settled_by problem history vertex) ≡ true → IsSettled history vertex × HasCause problem vertex
is_settled_cause problem history vertex e =
    let h = settled_cause (list_any (settles vertex) history) (vertex_value problem vertex) e in
    (h.0, has_cause-is (vertex_value problem vertex) h.1)

is_unset : (problem : Problem) (history : List Happened) → ¬ IsSettled history problem.target → is_some (settled_by problem history problem.target) ≡ false
is_unset problem history open_target = by_test (list_any (settles problem.target) history) refl
  where
    by_test : (b : Bool) → list_any (settles problem.target) history ≡ b → is_some (cond (list_any (settles problem.target) history) (vertex_value problem problem.target) None) ≡ false
    by_test true e = absurd (open_target e)
    by_test false e = rw e refl

-- where the target isn't settled and each vertex that is settled with a cause has a greater line, the vertex isn't stopped
goes-on : (problem : Problem) (history : List Happened) (vertex : ℕ) → ¬ IsSettled history problem.target → ((other : ℕ) → IsSettled history other → HasCause problem other → line_at problem vertex < line_at problem other) → stops problem (settled_by problem history) vertex ≡ false
goes-on problem history vertex open_target later =
    or_from _ _ (is_unset problem history open_target) (any_below-none test (length problem.vertices) (λ other. by_cause other (has_cause (settled_by problem history other)) refl))
  where
    test : ℕ → Bool
    test other = has_cause (settled_by problem history other) && not (nat_lt (line_at problem vertex) (line_at problem other))

    by_cause : (other : ℕ) (b : Bool) → has_cause (settled_by problem history other) ≡ b → test other ≡ false
    by_cause other false e = rw e refl
    by_cause other true e =
        let found = is_settled_cause problem history other e in
        let less : nat_lt (line_at problem vertex) (line_at problem other) ≡ true = lt-ltb (line_at problem vertex) (line_at problem other) (later other found.0 found.1) in
        rw (e, less) refl

-- Where no claim is out, no vertex is ready and the target isn't settled, a vertex of at most this line that has a value is settled, if each vertex that is
-- settled with a cause has a greater line.
settled-before : (problem : Problem) (run : Run) → IsSound problem → IsProblem problem → IsRight problem run → HasLinesInOrder problem
    → ((worker : ℕ) → vertex_out run.history worker ≡ None) → ((vertex : ℕ) → ¬ IsReady problem run.history vertex) → ¬ IsSettled run.history problem.target
    → (line : ℕ) → ((other : ℕ) → IsSettled run.history other → HasCause problem other → line < line_at problem other)
    → (vertex : ℕ) → line_at problem vertex ≤ line → is_some (vertex_value problem vertex) ≡ true → IsSettled run.history vertex
settled-before problem run sound is right in_order idle none open_target line later vertex low valued = by_least (least waits (suc vertex)) refl
  where
    waits : ℕ → Bool
    waits k = not (list_any (settles k) run.history) && (is_some (vertex_value problem k) && not (nat_lt line (line_at problem k)))

    waits_not : (k : ℕ) → waits k ≡ false → is_some (vertex_value problem k) ≡ true → line_at problem k ≤ line → IsSettled run.history k
    waits_not k e some l = true_from_ne_false (list_any (settles k) run.history) (λ unsettled.
        let both : waits k ≡ true = and_from _ _ (not_from_false _ unsettled) (and_from _ _ some (not_from_false _ (le-ltb line (line_at problem k) l))) in
        both_ways _ e both)

    input_settled : (k : ℕ) → IsLeast waits (suc vertex) k → line_at problem k ≤ line → (input : ℕ) → input < k → line_at problem input ≤ line_at problem k → HasTree problem input → IsSettled run.history input
    input_settled k first l input below before tree = waits_not input (first.below input below) (ap is_some tree.1) (omega (arith, before, l))

    ready_at : (k : ℕ) → IsLeast waits (suc vertex) k → (v : Vertex) → slice_get problem.vertices k ≡ Some v → IsReady problem run.history k
    ready_at k first v there =
        let parts = and_parts _ _ first.passes in
        let more = and_parts _ _ parts.1 in
        let l : line_at problem k ≤ line = ltb-false line (line_at problem k) (not-true _ more.1) in
        let trees = inputs-have-trees problem k v is there more.0 in
        record {
          unclaimed = λ worker h. (let f : None ≡ Some k = sym (idle worker) ∙ h in cc);
          unsettled = λ s. both_ways (list_any (settles k) run.history) (not-true (list_any (settles k) run.history) parts.0) s;
          inputs = (v, there, λ i d m. (input_settled k first l (slice_index_or v.inputs i d) (sound.below k v there i d m) (in_order k v there i d m) (trees i d m), trees i d m));
          caches = rw (no_holders problem run right idle) (can_take-free (uses_at problem k));
          goes_on = goes-on problem run.history k open_target (λ other s c. let after = later other s c in omega (arith, l, after));
        }

    by_vertex : (k : ℕ) → IsLeast waits (suc vertex) k → ((v : Vertex) × (k < length problem.vertices) × (slice_get problem.vertices k ≡ Some v) × (slice_index_or problem.vertices k v ≡ v)) ⊎ ((length problem.vertices ≤ k) × (slice_get problem.vertices k ≡ None)) → ⊥
    by_vertex k first (inl there) = none k (ready_at k first there.0 there.2)
    by_vertex k first (inr past) =
        let parts = and_parts (not (list_any (settles k) run.history)) (is_some (vertex_value problem k) && not (nat_lt line (line_at problem k))) first.passes in
        let more = and_parts (is_some (vertex_value problem k)) (not (nat_lt line (line_at problem k))) parts.1 in
        let within : k < length problem.vertices = value-within problem k more.0 in
        omega (arith, within, past.0)

    by_least : (o : Option ℕ) → least waits (suc vertex) ≡ o → IsSettled run.history vertex
    by_least None e = waits_not vertex (least-none waits (suc vertex) e vertex (omega arith)) valued low
    by_least (Some k) e = absurd (by_vertex k (least-some waits (suc vertex) k e) (slice_get_cases problem.vertices k).1)

-- So a board on which no claim is out, no vertex is ready and the target isn't settled has settled, for each vertex that fails, one that fails on no greater
-- line
first-failure : (problem : Problem) (run : Run) → IsSound problem → IsProblem problem → IsRight problem run → HasLinesInOrder problem
    → ((worker : ℕ) → vertex_out run.history worker ≡ None) → ((vertex : ℕ) → ¬ IsReady problem run.history vertex) → ¬ IsSettled run.history problem.target
    → (vertex : ℕ) → HasCause problem vertex
    → (first : ℕ) × IsSettled run.history first × HasCause problem first × (line_at problem first ≤ line_at problem vertex)
first-failure problem run sound is right in_order idle none open_target vertex cause = by_test (any_below test (length problem.vertices)) refl
  where
    test : ℕ → Bool
    test other = has_cause (settled_by problem run.history other) && not (nat_lt (line_at problem vertex) (line_at problem other))

    by_test : (b : Bool) → any_below test (length problem.vertices) ≡ b → (first : ℕ) × IsSettled run.history first × HasCause problem first × (line_at problem first ≤ line_at problem vertex)
    by_test true e =
        let found = any_below-is test (length problem.vertices) e in
        let parts = and_parts _ _ found.2 in
        let here = is_settled_cause problem run.history found.0 parts.0 in
        (found.0, here.0, here.1, ltb-false (line_at problem vertex) (line_at problem found.0) (not-true _ parts.1))
    by_test false e = absurd (refute (settled-before problem run sound is right in_order idle none open_target (line_at problem vertex) later vertex (omega arith) (ap is_some cause.1)))
      where
        later : (other : ℕ) → IsSettled run.history other → HasCause problem other → line_at problem vertex < line_at problem other
        later other settled why = ltb-true (line_at problem vertex) (line_at problem other) (true_from_ne_false _ (λ not_less.
            let here : has_cause (settled_by problem run.history other) ≡ true = cause_settled (list_any (settles other) run.history) (vertex_value problem other) settled (ap has_cause why.1) in
            let passes : test other ≡ true = and_from _ _ here (not_from_false _ not_less) in
            let within = value-within problem other (ap is_some why.1) in
            both_ways _ e (any_below-some test (length problem.vertices) other within passes)))

        refute : IsSettled run.history vertex → ⊥
        refute settled = (let l = later vertex settled cause in omega (arith, l))

-- where the target needs every vertex and fails, no other one does
failing-target : (problem : Problem) (vertex : ℕ) → IsProblem problem → NeedsAll problem → HasCause problem problem.target → HasCause problem vertex → vertex ≡ problem.target
failing-target problem vertex is needs failed cause =
    let path = needs vertex (value-within problem vertex (ap is_some cause.1)) in
    by_path path.0 path.1
  where
    by_path : (path : List ℕ) → IsPath (HasInput problem.vertices) problem.target path vertex → vertex ≡ problem.target
    by_path [] same = sym same
    by_path (next ∷ path) leads =
        let trees = inputs-have-trees problem problem.target leads.0.v is leads.0.there (ap is_some failed.1) in
        let tree : HasTree problem next = subst (HasTree problem) leads.0.among.2 (trees leads.0.among.0 next leads.0.among.1) in
        let none = treeless problem path next vertex is.vertices leads.1 (ap tree_of cause.1) in
        let f : None ≡ Some tree.0 = sym none ∙ ap tree_of tree.1 in
        absurd cc

target_failed : (problem : Problem) (o : Option TreeOrCause) → vertex_value problem problem.target ≡ o → is_some o ≡ true → ¬ HasTree problem problem.target → HasCause problem problem.target
target_failed problem None e some none = cc
target_failed problem (Some (Ok tree)) e some none = absurd (none (tree, e))
target_failed problem (Some (Err why)) e some none = (why, e)

-- Where no claim is out, no vertex is ready and the target isn't settled with a tree, a vertex that is settled with a cause and of least line among these has
-- the least line of all vertices that fail
pub least-of-all : (problem : Problem) (run : Run) → IsSound problem → IsProblem problem → IsRight problem run → NeedsAll problem → HasLinesInOrder problem
    → ((worker : ℕ) → vertex_out run.history worker ≡ None) → ((vertex : ℕ) → ¬ IsReady problem run.history vertex)
    → ¬ (IsSettled run.history problem.target × HasTree problem problem.target)
    → (first : ℕ) → ((other : ℕ) → IsSettled run.history other → HasCause problem other → line_at problem first ≤ line_at problem other)
    → (vertex : ℕ) → HasCause problem vertex → line_at problem first ≤ line_at problem vertex
least-of-all problem run sound is right needs in_order idle none treeless_target first least vertex cause = by_test (list_any (settles problem.target) run.history) refl
  where
    by_test : (b : Bool) → list_any (settles problem.target) run.history ≡ b → line_at problem first ≤ line_at problem vertex
    by_test true settled =
        let failed : HasCause problem problem.target = target_failed problem (vertex_value problem problem.target) refl (right.agrees.valued problem.target settled) (λ tree. treeless_target (settled, tree)) in
        subst (λ v. line_at problem first ≤ line_at problem v) (sym (failing-target problem vertex is needs failed cause)) (least problem.target settled failed)
    by_test false unsettled =
        let found = first-failure problem run sound is right in_order idle none (both_ways (list_any (settles problem.target) run.history) unsettled) vertex cause in
        let low = least found.0 found.1 found.2 in
        let more = found.3 in
        omega (arith, low, more)

-- and there is one
pub some-failed : (problem : Problem) (run : Run) → IsSound problem → IsProblem problem → IsRight problem run
    → ((worker : ℕ) → vertex_out run.history worker ≡ None) → ((vertex : ℕ) → ¬ IsReady problem run.history vertex)
    → ¬ (IsSettled run.history problem.target × HasTree problem problem.target)
    → (vertex : ℕ) × IsSettled run.history vertex × HasCause problem vertex
some-failed problem run sound is right idle none treeless_target = elim (idle-ends problem run sound is.target right idle none) [
  | inl settled ↦ (problem.target, settled, target_failed problem (vertex_value problem problem.target) refl (right.agrees.valued problem.target settled) (λ tree. treeless_target (settled, tree)))
  | inr found ↦ found
]

-- ---- the same as a board finds it

cause_within : (settled : List (Option TreeOrCause)) (vertex : ℕ) → has_cause (value_at settled vertex) ≡ true → vertex < length settled
cause_within settled vertex e = elim (cases_lt vertex (length settled)) [
  | inl l ↦ l
  | inr past ↦
      let none : value_at settled vertex ≡ None = get_or_past settled vertex None past in
      let f : false ≡ true = ap has_cause (sym none) ∙ e in
      cc
]

-- where the target isn't settled, a vertex isn't stopped just where its line comes before the least of those that failed
pub stops-before : (problem : Problem) (settled : List (Option TreeOrCause)) (failed : Option ℕ) (vertex : ℕ) → length settled ≡ length problem.vertices → is_some (value_at settled problem.target) ≡ false → IsFailedLine problem.places settled failed → not (stops problem (value_at settled) vertex) ≡ comes_before (line_at problem vertex) failed
stops-before problem settled failed vertex long over is = by_failed failed is
  where
    test : ℕ → Bool
    test other = has_cause (value_at settled other) && not (nat_lt (line_at problem vertex) (line_at problem other))

    as_test : stops problem (value_at settled) vertex ≡ any_below test (length problem.vertices)
    as_test = rw over refl

    by_failed : (o : Option ℕ) → IsFailedLine problem.places settled o → not (stops problem (value_at settled) vertex) ≡ comes_before (line_at problem vertex) o
    by_failed None none = ap not (as_test ∙ any_below-none test (length problem.vertices) (λ other. and_left (has_cause (value_at settled other)) (not (nat_lt (line_at problem vertex) (line_at problem other))) (none other)))
    by_failed (Some line) some = by_test (nat_lt (line_at problem vertex) line) refl
      where
        later : (other : ℕ) (b : Bool) → has_cause (value_at settled other) ≡ b → nat_lt (line_at problem vertex) line ≡ true → test other ≡ false
        later other false e less = and_left (has_cause (value_at settled other)) (not (nat_lt (line_at problem vertex) (line_at problem other))) e
        later other true e less =
            let before : line_at problem vertex < line = ltb-true (line_at problem vertex) line less in
            let most : line ≤ line_at problem other = some.1 other e in
            let l : nat_lt (line_at problem vertex) (line_at problem other) ≡ true = lt-ltb (line_at problem vertex) (line_at problem other) (omega (arith, before, most)) in
            and_right (has_cause (value_at settled other)) (not (nat_lt (line_at problem vertex) (line_at problem other))) (ap not l)

        by_test : (b : Bool) → nat_lt (line_at problem vertex) line ≡ b → not (stops problem (value_at settled) vertex) ≡ nat_lt (line_at problem vertex) line
        by_test true less = ap not (as_test ∙ any_below-none test (length problem.vertices) (λ other. later other (has_cause (value_at settled other)) refl less)) ∙ sym less
        by_test false more =
            let here : test some.0.vertex ≡ true = and_from _ _ some.0.failed (not_from_false _ (ap (nat_lt (line_at problem vertex)) some.0.on ∙ more)) in
            let within = cause_within settled some.0.vertex some.0.failed in
            ap not (as_test ∙ any_below-some test (length problem.vertices) some.0.vertex (omega (arith, within, long)) here) ∙ sym more
