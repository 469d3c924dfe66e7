-- What a board keeps of available vertices goes with what is settled and claimed after each step; and what it says of the vertex that is claimed next.
use Rattle.std.proofs.Common.{◌≡◌, ℕ, zero, suc, ◌+◌, ◌<◌, ◌≤◌, ◌==◌, min, Bool, true, false, not, ◌&&◌, ◌||◌, cond, ◌⊎◌, inl, inr, List, [], ◌∷◌, ◌++◌, length, map, replicate, Option, Some, None, is_some, Ok, Err, refl, sym, ap, ◌∙◌, subst, arith}
use Rattle.std.specs.Prelude.{slice_get, slice_index, slice_set}
use Rattle.std.proofs.lemmas.Bool.{cases_lt, cases_eq, eqb-true, eq-eqb, ne_eqb, or_cases, or_right, and_from, and_parts, and_right, not-true, lt-ltb, ltb-true, both_ways}
use Rattle.std.proofs.lemmas.List.{length-set, length-map, get_or-map, get_or-set_same, get_or-set_other, get_or_past}
use Rattle.std.proofs.lemmas.Option.{slice_get_past}
use Rattle.trees.specs.TreeMap.{TreeMap}
use Rattle.trees.specs.declared.cause.Cause.{Cause}
use Rattle.trees.specs.Cause.{TreeOrCause}
use Rattle.llb.specs.declared.vertex.Vertex.{Vertex}
use Rattle.cachemounts.specs.Holds.{can_take}
use Rattle.plans.specs.Plan.{Problem, uses_at, line_at}
use Rattle.board.specs.Readiness.{has_tree, has_cause, stops}
use Rattle.board.specs.Play.{State, value_at, have_trees, is_claimed, claim_of, is_ready, least_ready, claimable, least, or_last, without}
use Rattle.board.specs.PrivateNumbers.{has}
use Rattle.board.specs.PrivateFrontier.{times, missing, inputs_at, users_at, is_begun, is_available, line_in, comes_before, with_failed, HasFailedOn, IsFailedLine, AreUsers, IsFrontier, IsThinned, IsLowered, IsSettledIn, CanLower}
use Rattle.board.proofs.LineLemmas.{stops-before}
use Rattle.board.proofs.ListLemmas.{least-some, least-missing}
use Rattle.board.proofs.FrontierLemmas.{IsAlone, missing-tree, missing-cause, missing-none, none_at, begun-settle, begun-abandon, begun-claim, claimed-out, available-is, nowhere}
use Rattle.board.specs.declared.frontier.Frontier.{Frontier}
use Rattle.board.specs.declared.claim.ClaimOut.{ClaimOut}

-- a value that fails as little as what stood there changes no failure
cause-set : (settled : List (Option TreeOrCause)) (vertex : ℕ) (value : Option TreeOrCause) → vertex < length settled → has_cause value ≡ has_cause (value_at settled vertex) → (k : ℕ) → has_cause (value_at (slice_set settled vertex value) k) ≡ has_cause (value_at settled k)
cause-set settled vertex value l same k = elim (cases_eq k vertex) [
  | inl here ↦ ap (λ i. has_cause (value_at (slice_set settled vertex value) i)) here ∙ (ap has_cause (get_or-set_same settled vertex value None l) ∙ (same ∙ ap (λ i. has_cause (value_at settled i)) (sym here)))
  | inr other ↦ ap has_cause (get_or-set_other settled vertex k value None other)
]

failed-same : (places : List (List ℕ)) (settled now : List (Option TreeOrCause)) (failed : Option ℕ) → ((k : ℕ) → has_cause (value_at now k) ≡ has_cause (value_at settled k)) → IsFailedLine places settled failed → IsFailedLine places now failed
failed-same places settled now None same is = λ vertex. same vertex ∙ is vertex
failed-same places settled now (Some line) same is =
    (record { vertex = is.0.vertex; failed = same is.0.vertex ∙ is.0.failed; on = is.0.on }, λ vertex e. is.1 vertex (sym (same vertex) ∙ e))

-- one failure more
failed-more : (places : List (List ℕ)) (settled : List (Option TreeOrCause)) (vertex line : ℕ) (cause : Cause) (failed : Option ℕ) → vertex < length settled → line ≡ line_in places vertex → IsFailedLine places settled failed → has_cause (value_at settled vertex) ≡ false → IsFailedLine places (slice_set settled vertex (Some (Err cause))) (Some (with_failed line failed))
failed-more places settled vertex line cause failed l on is unset = by_failed failed is
  where
    now : List (Option TreeOrCause)
    now = slice_set settled vertex (Some (Err cause))

    here : has_cause (value_at now vertex) ≡ true
    here = ap has_cause (get_or-set_same settled vertex (Some (Err cause)) None l)

    there : (k : ℕ) → (k ≡ vertex → ⊥) → has_cause (value_at now k) ≡ has_cause (value_at settled k)
    there k other = ap has_cause (get_or-set_other settled vertex k (Some (Err cause)) None other)

    own : HasFailedOn places now line
    own = record { vertex = vertex; failed = here; on = sym on }

    by_failed : (o : Option ℕ) → IsFailedLine places settled o → IsFailedLine places now (Some (with_failed line o))
    by_failed None none = (
      own,
      λ k e. elim (cases_eq k vertex) [
        | inl same ↦ (let at : line ≡ line_in places k = on ∙ ap (line_in places) (sym same) in omega (arith, at))
        | inr other ↦ absurd (both_ways (has_cause (value_at settled k)) (none k) (sym (there k other) ∙ e))
      ],
    )
    by_failed (Some before) some = (
      least_on (cases_lt line before),
      λ k e. elim (cases_eq k vertex) [
        | inl same ↦ (let at : line ≡ line_in places k = on ∙ ap (line_in places) (sym same) in omega (arith, at))
        | inr other ↦ (let most : before ≤ line_in places k = some.1 k (sym (there k other) ∙ e) in omega (arith, most))
      ],
    )
      where
        old_vertex : some.0.vertex ≡ vertex → ⊥
        old_vertex same = both_ways (has_cause (value_at settled vertex)) unset (ap (λ i. has_cause (value_at settled i)) (sym same) ∙ some.0.failed)

        least_on : (line < before) ⊎ (before ≤ line) → HasFailedOn places now (min line before)
        least_on (inl less) = (let same : line ≡ min line before = omega (arith, less) in subst (HasFailedOn places now) same own)
        least_on (inr more) =
            let same : before ≡ min line before = omega (arith, more) in
            subst (HasFailedOn places now) same (record { vertex = some.0.vertex; failed = there some.0.vertex old_vertex ∙ some.0.failed; on = some.0.on })

-- whether a vertex is available after counts were lowered: it was before, or the last input that was missing is there
lowered_is : (some begun before after : Bool) → (before ≡ true → after ≡ true) → (begun ≡ true → before ≡ true) → (some ≡ false → before ≡ true) → (((some && before) && not begun) || (not before && after)) ≡ ((some && after) && not begun)
lowered_is true true true after fewer was nowhere = rw (fewer refl) refl
lowered_is true false true after fewer was nowhere = rw (fewer refl) refl
lowered_is false true true after fewer was nowhere = refl
lowered_is false false true after fewer was nowhere = refl
lowered_is true false false true fewer was nowhere = refl
lowered_is true false false false fewer was nowhere = refl
lowered_is true true false after fewer was nowhere = (let f : false ≡ true = was refl in cc)
lowered_is false begun false after fewer was nowhere = (let f : false ≡ true = nowhere refl in cc)

-- what is more is there where what was there is
or_more : (a b more : Bool) → (a ≡ true → b ≡ true) → (a || more) ≡ true → (b || more) ≡ true
or_more true b more kept e = ap (λ c. c || more) (kept refl)
or_more false b more kept e = or_right b more e

-- a settle with a tree
settle-tree : (vertices : List Vertex) (places : List (List ℕ)) (settled : List (Option TreeOrCause)) (claims : List ClaimOut) (old new : Frontier) (claim : ClaimOut) (tree : TreeMap) → IsFrontier vertices places settled claims old → IsAlone vertices settled claims claim → IsLowered (users_at old.users.items claim.vertex) old.waiting.items new.waiting.items old.available new.available → new.users.items ≡ old.users.items → new.failed ≡ old.failed → IsFrontier vertices places (slice_set settled claim.vertex (Some (Ok tree))) (without claim.worker claims) new
settle-tree vertices places settled claims old new claim tree is alone lowered users failed = record {
  users = subst (AreUsers vertices) (sym users) is.users;
  waiting = waiting;
  waiting_long = lowered.waiting_long ∙ is.waiting_long;
  available = available;
  kept = kept;
  available_long = lowered.available_long ∙ is.available_long;
  begun = λ vertex e. (let was = is.begun vertex (sym (begun-settle vertices settled claims claim (Ok tree) vertex alone) ∙ e) in let sum = fewer vertex in omega (arith, was, sum));
  failed = subst (IsFailedLine places now) (sym failed) (failed-same places settled now old.failed (cause-set settled claim.vertex (Some (Ok tree)) alone.within (sym (ap has_cause alone.unsettled))) is.failed);
}
  where
    now : List (Option TreeOrCause)
    now = slice_set settled claim.vertex (Some (Ok tree))

    fewer : (vertex : ℕ) → missing now (inputs_at vertices vertex) + times claim.vertex (inputs_at vertices vertex) ≡ missing settled (inputs_at vertices vertex)
    fewer vertex = missing-tree settled claim.vertex tree (inputs_at vertices vertex) alone.within alone.unsettled

    waiting : (vertex : ℕ) → slice_index new.waiting.items vertex ≡ missing now (inputs_at vertices vertex)
    waiting vertex =
        let a = lowered.waiting vertex in
        let b = is.users.used claim.vertex vertex in
        let d = is.waiting vertex in
        let e = fewer vertex in
        omega (arith, a, b, d, e)

    none_after : (vertex : ℕ) → (missing settled (inputs_at vertices vertex) == 0) ≡ true → (missing now (inputs_at vertices vertex) == 0) ≡ true
    none_after vertex e =
        let none = eqb-true (missing settled (inputs_at vertices vertex)) 0 e in
        let sum = fewer vertex in
        eq-eqb (missing now (inputs_at vertices vertex)) 0 (omega (arith, none, sum))

    -- what is in the set now, by what was; and what is available now, by what was
    in_set : (vertex : ℕ) → has new.available vertex ≡ (has old.available vertex || (not (missing settled (inputs_at vertices vertex) == 0) && (missing now (inputs_at vertices vertex) == 0)))
    in_set vertex =
        lowered.available vertex ∙ (ap (λ n. has old.available vertex || (not (n == 0) && (slice_index new.waiting.items vertex == 0))) (is.waiting vertex)
        ∙ ap (λ n. has old.available vertex || (not (missing settled (inputs_at vertices vertex) == 0) && (n == 0))) (waiting vertex))

    there : (vertex : ℕ) → (is_available vertices settled claims vertex || (not (missing settled (inputs_at vertices vertex) == 0) && (missing now (inputs_at vertices vertex) == 0))) ≡ is_available vertices now (without claim.worker claims) vertex
    there vertex =
        let some = is_some (slice_get vertices vertex) in
        let begun = is_begun settled claims vertex in
        let before = missing settled (inputs_at vertices vertex) == 0 in
        let after = missing now (inputs_at vertices vertex) == 0 in
        ap (λ b. b || (not before && after)) (available-is vertices settled claims vertex)
        ∙ (lowered_is some begun before after (none_after vertex) (λ e. eq-eqb (missing settled (inputs_at vertices vertex)) 0 (is.begun vertex e)) (λ e. eq-eqb (missing settled (inputs_at vertices vertex)) 0 (nowhere vertices settled vertex e))
        ∙ (ap (λ b. (some && after) && not b) (sym (begun-settle vertices settled claims claim (Ok tree) vertex alone))
        ∙ sym (available-is vertices now (without claim.worker claims) vertex)))

    available : (vertex : ℕ) → has new.available vertex ≡ true → is_available vertices now (without claim.worker claims) vertex ≡ true
    available vertex e = sym (there vertex) ∙ or_more _ _ _ (is.available vertex) (sym (in_set vertex) ∙ e)

    kept : (vertex : ℕ) → is_available vertices now (without claim.worker claims) vertex ≡ true → comes_before (line_in places vertex) new.failed ≡ true → has new.available vertex ≡ true
    kept vertex e before =
        in_set vertex ∙ or_more _ _ _ (λ was. is.kept vertex was (ap (comes_before (line_in places vertex)) (sym failed) ∙ before)) (there vertex ∙ e)

-- a line that comes before that of each failure with one more came before that of each failure
before_less : (own line : ℕ) (failed : Option ℕ) → comes_before own (Some (with_failed line failed)) ≡ true → comes_before own failed ≡ true
before_less own line None e = refl
before_less own line (Some failed) e =
    let less : own < min line failed = ltb-true own (min line failed) e in
    lt-ltb own failed (omega (arith, less))

-- a settle with a cause
settle-cause : (vertices : List Vertex) (places : List (List ℕ)) (settled : List (Option TreeOrCause)) (claims : List ClaimOut) (old : Frontier) (claim : ClaimOut) (line : ℕ) (cause : Cause) → IsFrontier vertices places settled claims old → IsAlone vertices settled claims claim → line ≡ line_in places claim.vertex → IsFrontier vertices places (slice_set settled claim.vertex (Some (Err cause))) (without claim.worker claims) (record old { failed = Some (with_failed line old.failed) })
settle-cause vertices places settled claims old claim line cause is alone on = record {
  users = is.users;
  waiting = λ vertex. is.waiting vertex ∙ sym (same vertex);
  waiting_long = is.waiting_long;
  available = λ vertex e. sym (there vertex) ∙ is.available vertex e;
  kept = λ vertex e before. is.kept vertex (there vertex ∙ e) (before_less (line_in places vertex) line old.failed before);
  available_long = is.available_long;
  begun = λ vertex e. same vertex ∙ is.begun vertex (sym (begun vertex) ∙ e);
  failed = failed-more places settled claim.vertex line cause old.failed alone.within on is.failed (ap has_cause alone.unsettled);
}
  where
    now : List (Option TreeOrCause)
    now = slice_set settled claim.vertex (Some (Err cause))

    same : (vertex : ℕ) → missing now (inputs_at vertices vertex) ≡ missing settled (inputs_at vertices vertex)
    same vertex = missing-cause settled claim.vertex cause (inputs_at vertices vertex) alone.within alone.unsettled

    begun : (vertex : ℕ) → is_begun now (without claim.worker claims) vertex ≡ is_begun settled claims vertex
    begun vertex = begun-settle vertices settled claims claim (Err cause) vertex alone

    there : (vertex : ℕ) → is_available vertices settled claims vertex ≡ is_available vertices now (without claim.worker claims) vertex
    there vertex =
        available-is vertices settled claims vertex
        ∙ (ap (λ n. (is_some (slice_get vertices vertex) && (n == 0)) && not (is_begun settled claims vertex)) (sym (same vertex))
        ∙ (ap (λ b. (is_some (slice_get vertices vertex) && (missing now (inputs_at vertices vertex) == 0)) && not b) (sym (begun vertex))
        ∙ sym (available-is vertices now (without claim.worker claims) vertex)))

-- a settle
pub frontier-settle : (vertices : List Vertex) (places : List (List ℕ)) (settled later : List (Option TreeOrCause)) (claims fewer : List ClaimOut) (old new : Frontier) (claim : ClaimOut) (line : ℕ) (value : TreeOrCause) → IsFrontier vertices places settled claims old → IsAlone vertices settled claims claim → line ≡ line_in places claim.vertex → IsSettledIn claim.vertex line value old new → later ≡ slice_set settled claim.vertex (Some value) → fewer ≡ without claim.worker claims → IsFrontier vertices places later fewer new
frontier-settle vertices places settled later claims fewer old new claim line value is alone on settles l f = rw (l, f) (by_value value settles)
  where
    by_value : (v : TreeOrCause) → IsSettledIn claim.vertex line v old new → IsFrontier vertices places (slice_set settled claim.vertex (Some v)) (without claim.worker claims) new
    by_value (Ok tree) settles = settle-tree vertices places settled claims old new claim tree is alone settles.0 settles.1 settles.2
    by_value (Err cause) settles = subst (IsFrontier vertices places (slice_set settled claim.vertex (Some (Err cause))) (without claim.worker claims)) (sym settles) (settle-cause vertices places settled claims old claim line cause is alone on)

at_most : (k t n : ℕ) → t ≤ n → 0 + t ≤ k + n
at_most k t n l = omega (arith, l)

one_at_most : (t n : ℕ) → t ≤ n → 1 + t ≤ 1 + n
one_at_most t n l = omega (arith, l)

-- a vertex that isn't settled is missing as often as it is an input
times_missing : (settled : List (Option TreeOrCause)) (vertex : ℕ) (inputs : List ℕ) → value_at settled vertex ≡ None → times vertex inputs ≤ missing settled inputs
times_missing settled vertex [] none = omega arith
times_missing settled vertex (input ∷ inputs) none = by_test (input == vertex) refl (times_missing settled vertex inputs none)
  where
    by_test : (b : Bool) → (input == vertex) ≡ b → times vertex inputs ≤ missing settled inputs → times vertex (input ∷ inputs) ≤ missing settled (input ∷ inputs)
    by_test true t rest =
        let was : has_tree (value_at settled input) ≡ false = ap (λ i. has_tree (value_at settled i)) (eqb-true input vertex t) ∙ ap has_tree none in
        rw (t, was) (one_at_most (times vertex inputs) (missing settled inputs) rest)
    by_test false t rest = rw t (at_most (cond (has_tree (value_at settled input)) 0 1) (times vertex inputs) (missing settled inputs) rest)

-- what a settle asks of the counts
pub can-lower : (vertices : List Vertex) (places : List (List ℕ)) (settled : List (Option TreeOrCause)) (claims : List ClaimOut) (frontier : Frontier) (vertex : ℕ) → IsFrontier vertices places settled claims frontier → value_at settled vertex ≡ None → CanLower (users_at frontier.users.items vertex) frontier.waiting.items
can-lower vertices places settled claims frontier vertex is none user =
    let b = is.users.used vertex user in
    let d = is.waiting user in
    let e = times_missing settled vertex (inputs_at vertices user) none in
    omega (arith, b, d, e)

-- an available vertex is one of the graph's
pub available-within : (vertices : List Vertex) (places : List (List ℕ)) (settled : List (Option TreeOrCause)) (claims : List ClaimOut) (frontier : Frontier) (vertex : ℕ) → IsFrontier vertices places settled claims frontier → is_available vertices settled claims vertex ≡ true → vertex < length frontier.available
available-within vertices places settled claims frontier vertex is e = elim (cases_lt vertex (length vertices)) [
  | inl l ↦ (let long = is.available_long in omega (arith, l, long))
  | inr past ↦
      let none : slice_get vertices vertex ≡ None = slice_get_past vertices vertex past in
      let f : false ≡ true = rw none at e in
      absurd cc
]

and_not_or : (a b c : Bool) → (a && not (b || c)) ≡ ((a && not b) && not c)
and_not_or false b c = refl
and_not_or true true c = refl
and_not_or true false c = refl

-- a claim leaves available what was, but for its vertex
claimed-available : (vertices : List Vertex) (settled : List (Option TreeOrCause)) (claims : List ClaimOut) (claim : ClaimOut) (vertex : ℕ) → is_available vertices settled (claims ++ claim ∷ []) vertex ≡ (is_available vertices settled claims vertex && not (claim.vertex == vertex))
claimed-available vertices settled claims claim vertex =
    let there = is_some (slice_get vertices vertex) && (missing settled (inputs_at vertices vertex) == 0) in
    available-is vertices settled (claims ++ claim ∷ []) vertex
    ∙ (ap (λ b. there && not b) (begun-claim settled claims claim vertex)
    ∙ (and_not_or there (is_begun settled claims vertex) (claim.vertex == vertex)
    ∙ ap (λ b. b && not (claim.vertex == vertex)) (sym (available-is vertices settled claims vertex))))

-- a claim of an available vertex
pub frontier-claim : (vertices : List Vertex) (places : List (List ℕ)) (settled : List (Option TreeOrCause)) (claims more : List ClaimOut) (old new : Frontier) (claim : ClaimOut) → IsFrontier vertices places settled claims old → is_available vertices settled claims claim.vertex ≡ true → new ≡ record old { available = slice_set old.available claim.vertex false } → more ≡ claims ++ claim ∷ [] → IsFrontier vertices places settled more new
frontier-claim vertices places settled claims more old new claim is can n m = rw (n, m) (record {
  users = is.users;
  waiting = is.waiting;
  waiting_long = is.waiting_long;
  available = λ vertex. available vertex (cases_eq vertex claim.vertex);
  kept = λ vertex. kept vertex (cases_eq vertex claim.vertex);
  available_long = length-set old.available claim.vertex false ∙ is.available_long;
  begun = λ vertex e. begun vertex (or_cases (is_begun settled claims vertex) (claim.vertex == vertex) (sym (begun-claim settled claims claim vertex) ∙ e));
  failed = is.failed;
})
  where
    within : claim.vertex < length old.available
    within = available-within vertices places settled claims old claim.vertex is can

    available : (vertex : ℕ) → (vertex ≡ claim.vertex) ⊎ (vertex ≡ claim.vertex → ⊥) → has (slice_set old.available claim.vertex false) vertex ≡ true → is_available vertices settled (claims ++ claim ∷ []) vertex ≡ true
    available vertex (inl same) e =
        let out : has (slice_set old.available claim.vertex false) vertex ≡ false = ap (has (slice_set old.available claim.vertex false)) same ∙ get_or-set_same old.available claim.vertex false false within in
        absurd (both_ways _ out e)
    available vertex (inr other) e =
        let was : has old.available vertex ≡ true = sym (get_or-set_other old.available claim.vertex vertex false false other) ∙ e in
        let there : (claim.vertex == vertex) ≡ false = ne_eqb claim.vertex vertex (λ f. other (sym f)) in
        claimed-available vertices settled claims claim vertex ∙ and_from _ _ (is.available vertex was) (ap not there)

    kept : (vertex : ℕ) → (vertex ≡ claim.vertex) ⊎ (vertex ≡ claim.vertex → ⊥) → is_available vertices settled (claims ++ claim ∷ []) vertex ≡ true → comes_before (line_in places vertex) old.failed ≡ true → has (slice_set old.available claim.vertex false) vertex ≡ true
    kept vertex (inl same) e before =
        let parts = and_parts (is_available vertices settled claims vertex) (not (claim.vertex == vertex)) (sym (claimed-available vertices settled claims claim vertex) ∙ e) in
        absurd (both_ways _ (not-true _ parts.1) (eq-eqb claim.vertex vertex (sym same)))
    kept vertex (inr other) e before =
        let parts = and_parts (is_available vertices settled claims vertex) (not (claim.vertex == vertex)) (sym (claimed-available vertices settled claims claim vertex) ∙ e) in
        get_or-set_other old.available claim.vertex vertex false false other ∙ is.kept vertex parts.0 before

    begun : (vertex : ℕ) → (is_begun settled claims vertex ≡ true) ⊎ ((claim.vertex == vertex) ≡ true) → missing settled (inputs_at vertices vertex) ≡ 0
    begun vertex (inl before) = is.begun vertex before
    begun vertex (inr here) =
        let some = (and_parts (is_some (slice_get vertices claim.vertex) && (missing settled (inputs_at vertices claim.vertex) == 0)) (not (is_begun settled claims claim.vertex)) (sym (available-is vertices settled claims claim.vertex) ∙ can)).0 in
        let none = (and_parts (is_some (slice_get vertices claim.vertex)) (missing settled (inputs_at vertices claim.vertex) == 0) some).1 in
        subst (λ v. missing settled (inputs_at vertices v) ≡ 0) (eqb-true claim.vertex vertex here) (eqb-true (missing settled (inputs_at vertices claim.vertex)) 0 none)

some_within : (vertices : List Vertex) (vertex : ℕ) → vertex < length vertices → is_some (slice_get vertices vertex) ≡ true
some_within [] vertex l = absurd (omega (arith, l))
some_within (v ∷ vertices) zero l = refl
some_within (v ∷ vertices) (suc vertex) l = some_within vertices vertex (omega (arith, l))

only_if : (b : Bool) → (b && not true) ≡ false
only_if b = and_right b (not true) refl

and_true : (b : Bool) → (b && not false) ≡ b
and_true true = refl
and_true false = refl

-- an abandon
pub frontier-abandon : (vertices : List Vertex) (places : List (List ℕ)) (settled : List (Option TreeOrCause)) (claims fewer : List ClaimOut) (old new : Frontier) (claim : ClaimOut) → IsFrontier vertices places settled claims old → IsAlone vertices settled claims claim → new ≡ record old { available = slice_set old.available claim.vertex true } → fewer ≡ without claim.worker claims → IsFrontier vertices places settled fewer new
frontier-abandon vertices places settled claims fewer old new claim is alone n f = rw (n, f) (record {
  users = is.users;
  waiting = is.waiting;
  waiting_long = is.waiting_long;
  available = λ vertex. available vertex (cases_eq vertex claim.vertex);
  kept = λ vertex. kept vertex (cases_eq vertex claim.vertex);
  available_long = length-set old.available claim.vertex true ∙ is.available_long;
  begun = λ vertex e. is.begun vertex (and_parts (is_begun settled claims vertex) (not (claim.vertex == vertex)) (sym (begun-abandon vertices settled claims claim vertex alone) ∙ e)).0;
  failed = is.failed;
})
  where
    within : claim.vertex < length vertices
    within = alone.vertex_within

    left : List ClaimOut
    left = without claim.worker claims

    none : missing settled (inputs_at vertices claim.vertex) ≡ 0
    none = is.begun claim.vertex (or_right (is_some (value_at settled claim.vertex)) (is_claimed claim.vertex claims) (claimed-out claims claim alone.out))

    here : is_available vertices settled left claim.vertex ≡ true
    here =
        let unbegun : is_begun settled left claim.vertex ≡ false = begun-abandon vertices settled claims claim claim.vertex alone ∙ (ap (λ b. is_begun settled claims claim.vertex && not b) (eq-eqb claim.vertex claim.vertex refl) ∙ only_if (is_begun settled claims claim.vertex)) in
        available-is vertices settled left claim.vertex ∙ rw (some_within vertices claim.vertex within, eq-eqb (missing settled (inputs_at vertices claim.vertex)) 0 none, unbegun) refl

    there : (vertex : ℕ) → (vertex ≡ claim.vertex → ⊥) → is_available vertices settled claims vertex ≡ is_available vertices settled left vertex
    there vertex other =
        let differs : (claim.vertex == vertex) ≡ false = ne_eqb claim.vertex vertex (λ e. other (sym e)) in
        let kept : is_begun settled left vertex ≡ is_begun settled claims vertex = begun-abandon vertices settled claims claim vertex alone ∙ (ap (λ b. is_begun settled claims vertex && not b) differs ∙ and_true (is_begun settled claims vertex)) in
        available-is vertices settled claims vertex ∙ (ap (λ b. (is_some (slice_get vertices vertex) && (missing settled (inputs_at vertices vertex) == 0)) && not b) (sym kept) ∙ sym (available-is vertices settled left vertex))

    available : (vertex : ℕ) → (vertex ≡ claim.vertex) ⊎ (vertex ≡ claim.vertex → ⊥) → has (slice_set old.available claim.vertex true) vertex ≡ true → is_available vertices settled left vertex ≡ true
    available vertex (inl same) e = subst (λ v. is_available vertices settled left v ≡ true) (sym same) here
    available vertex (inr other) e = sym (there vertex other) ∙ is.available vertex (sym (get_or-set_other old.available claim.vertex vertex true false other) ∙ e)

    kept : (vertex : ℕ) → (vertex ≡ claim.vertex) ⊎ (vertex ≡ claim.vertex → ⊥) → is_available vertices settled left vertex ≡ true → comes_before (line_in places vertex) old.failed ≡ true → has (slice_set old.available claim.vertex true) vertex ≡ true
    kept vertex (inl same) e before =
        let long = is.available_long in
        ap (has (slice_set old.available claim.vertex true)) same ∙ get_or-set_same old.available claim.vertex true false (omega (arith, within, long))
    kept vertex (inr other) e before =
        get_or-set_other old.available claim.vertex vertex true false other ∙ is.kept vertex (there vertex other ∙ e) before

-- ---- vertices that failures stop are taken out of the set

-- what isn't in the thinner set doesn't go: it wasn't in the set, or its line doesn't come before that of each failure
pub thinned-not : (places : List (List ℕ)) (old new : Frontier) (vertex : ℕ) (can : Bool) → IsThinned places old new → has new.available vertex ≡ false → (has old.available vertex && (can && comes_before (line_in places vertex) old.failed)) ≡ false
thinned-not places old new vertex can thinned out = by_tests (has old.available vertex) refl (comes_before (line_in places vertex) old.failed) refl
  where
    by_tests : (b : Bool) → has old.available vertex ≡ b → (d : Bool) → comes_before (line_in places vertex) old.failed ≡ d → (b && (can && d)) ≡ false
    by_tests false e d f = refl
    by_tests true e false f = and_right can false refl
    by_tests true e true f = absurd (both_ways (has new.available vertex) out (thinned.kept vertex e f))

-- one more is taken out
pub thinned-more : (places : List (List ℕ)) (old now new : Frontier) (vertex : ℕ) → IsThinned places old now → vertex < length now.available → comes_before (line_in places vertex) old.failed ≡ false → new ≡ record now { available = slice_set now.available vertex false } → IsThinned places old new
thinned-more places old now new vertex thinned within stopped n = rw n (record {
  same = ap (λ (f : Frontier). record f { available = slice_set now.available vertex false }) thinned.same;
  long = length-set now.available vertex false ∙ thinned.long;
  fewer = λ k e. thinned.fewer k (fewer k (cases_eq k vertex) e);
  kept = λ k. kept k (cases_eq k vertex);
})
  where
    fewer : (k : ℕ) → (k ≡ vertex) ⊎ (k ≡ vertex → ⊥) → has (slice_set now.available vertex false) k ≡ true → has now.available k ≡ true
    fewer k (inl same) e =
        let out : has (slice_set now.available vertex false) k ≡ false = ap (has (slice_set now.available vertex false)) same ∙ get_or-set_same now.available vertex false false within in
        absurd (both_ways _ out e)
    fewer k (inr other) e = sym (get_or-set_other now.available vertex k false false other) ∙ e

    kept : (k : ℕ) → (k ≡ vertex) ⊎ (k ≡ vertex → ⊥) → has old.available k ≡ true → comes_before (line_in places k) old.failed ≡ true → has (slice_set now.available vertex false) k ≡ true
    kept k (inl same) e before = absurd (both_ways _ stopped (subst (λ v. comes_before (line_in places v) old.failed ≡ true) same before))
    kept k (inr other) e before = get_or-set_other now.available vertex k false false other ∙ thinned.kept k e before

least_same : (test other : ℕ → Bool) (n : ℕ) → ((k : ℕ) → test k ≡ other k) → least test n ≡ least other n
least_same test other zero same = refl
least_same test other (suc n) same = ap (or_last test n) (least_same test other n same) ∙ at_last (least other n)
  where
    at_last : (o : Option ℕ) → or_last test n o ≡ or_last other n o
    at_last (Some k) = refl
    at_last None = ap (λ b. cond b (Some n) None) (same n)

regrouped : (inputs settled claimed rest : Bool) → (inputs && ((not settled && not claimed) && rest)) ≡ ((inputs && not (settled || claimed)) && rest)
regrouped false settled claimed rest = refl
regrouped true true claimed rest = refl
regrouped true false true rest = refl
regrouped true false false rest = refl

-- a vertex is ready where it is available, its caches can be taken and nothing stops it
pub ready-is : (problem : Problem) (state : State) (vertex : ℕ) → is_ready problem state vertex ≡ (is_available problem.vertices state.settled state.claims vertex && (can_take state.holds (uses_at problem vertex) && not (stops problem (value_at state.settled) vertex)))
ready-is problem state vertex =
    regrouped _ (is_some (value_at state.settled vertex)) (is_claimed vertex state.claims) (can_take state.holds (uses_at problem vertex) && not (stops problem (value_at state.settled) vertex))

-- where the target is settled, no vertex is ready
pub none-ready : (problem : Problem) (state : State) → is_some (value_at state.settled problem.target) ≡ true → least_ready problem state ≡ None
none-ready problem state over = least-missing (is_ready problem state) (length problem.vertices) (λ vertex l.
    let stopped : stops problem (value_at state.settled) vertex ≡ true = rw over refl in
    ready-is problem state vertex ∙ and_right (is_available problem.vertices state.settled state.claims vertex) _ (and_right (can_take state.holds (uses_at problem vertex)) _ (ap not stopped)))

-- where a line comes before that of each failure, its vertex is in the set just where it is available
same_before : (in_set there can before : Bool) → (in_set ≡ true → there ≡ true) → (there ≡ true → before ≡ true → in_set ≡ true) → (in_set && (can && before)) ≡ (there && (can && before))
same_before true there can before available kept = ap (λ b. b && (can && before)) (sym (available refl))
same_before false false can before available kept = refl
same_before false true can true available kept = (let f : false ≡ true = kept refl refl in cc)
same_before false true can false available kept = sym (and_right can false refl)

-- where it isn't, the least ready vertex is the least available one whose caches can be taken and whose line comes before that of each failure
pub least-ready : (problem : Problem) (state : State) (frontier : Frontier) → IsFrontier problem.vertices problem.places state.settled state.claims frontier → length state.settled ≡ length problem.vertices → is_some (value_at state.settled problem.target) ≡ false → least (λ vertex. has frontier.available vertex && (can_take state.holds (uses_at problem vertex) && comes_before (line_at problem vertex) frontier.failed)) (length problem.vertices) ≡ least_ready problem state
least-ready problem state frontier is long over = least_same (λ vertex. has frontier.available vertex && (can_take state.holds (uses_at problem vertex) && comes_before (line_at problem vertex) frontier.failed)) (is_ready problem state) (length problem.vertices) (λ vertex.
    same_before (has frontier.available vertex) (is_available problem.vertices state.settled state.claims vertex) (can_take state.holds (uses_at problem vertex)) (comes_before (line_at problem vertex) frontier.failed) (is.available vertex) (is.kept vertex)
    ∙ (ap (λ b. is_available problem.vertices state.settled state.claims vertex && (can_take state.holds (uses_at problem vertex) && b)) (sym (stops-before problem state.settled frontier.failed vertex long over is.failed))
    ∙ sym (ready-is problem state vertex)))

-- a ready vertex is available
pub ready-available : (problem : Problem) (state : State) (vertex : ℕ) → is_ready problem state vertex ≡ true → is_available problem.vertices state.settled state.claims vertex ≡ true
ready-available problem state vertex ready =
    (and_parts (is_available problem.vertices state.settled state.claims vertex) (can_take state.holds (uses_at problem vertex) && not (stops problem (value_at state.settled) vertex)) (sym (ready-is problem state vertex) ∙ ready)).0

-- a ready vertex is in the set
pub ready-kept : (problem : Problem) (state : State) (frontier : Frontier) → IsFrontier problem.vertices problem.places state.settled state.claims frontier → length state.settled ≡ length problem.vertices → (vertex : ℕ) → is_ready problem state vertex ≡ true → has frontier.available vertex ≡ true
ready-kept problem state frontier is long vertex ready = by_target (is_some (value_at state.settled problem.target)) refl
  where
    goes : not (stops problem (value_at state.settled) vertex) ≡ true
    goes =
        let parts = and_parts (is_available problem.vertices state.settled state.claims vertex) (can_take state.holds (uses_at problem vertex) && not (stops problem (value_at state.settled) vertex)) (sym (ready-is problem state vertex) ∙ ready) in
        (and_parts (can_take state.holds (uses_at problem vertex)) (not (stops problem (value_at state.settled) vertex)) parts.1).1

    by_target : (b : Bool) → is_some (value_at state.settled problem.target) ≡ b → has frontier.available vertex ≡ true
    by_target true over =
        let stopped : stops problem (value_at state.settled) vertex ≡ true = rw over refl in
        absurd (both_ways (stops problem (value_at state.settled) vertex) (not-true _ goes) stopped)
    by_target false over =
        is.kept vertex (ready-available problem state vertex ready) (sym (stops-before problem state.settled frontier.failed vertex long over is.failed) ∙ goes)

-- where nothing is settled and no claim is out
pub frontier-begun : (vertices : List Vertex) (places : List (List ℕ)) (frontier : Frontier) → AreUsers vertices frontier.users.items → frontier.waiting.items ≡ map (λ vertex. length vertex.inputs) vertices → frontier.available ≡ map (λ count. count == 0) frontier.waiting.items → frontier.failed ≡ None → IsFrontier vertices places (replicate (length vertices) None) [] frontier
frontier-begun vertices places frontier users counts empty failed = record {
  users = users;
  waiting = λ vertex. waiting vertex ∙ sym (missing-none (length vertices) (inputs_at vertices vertex));
  waiting_long = long;
  available = λ vertex e. sym (available vertex (cases_lt vertex (length vertices))) ∙ e;
  kept = λ vertex e before. available vertex (cases_lt vertex (length vertices)) ∙ e;
  available_long = ap length empty ∙ (length-map frontier.waiting.items (λ count. count == 0) ∙ long);
  begun = λ vertex e. absurd (both_ways (is_begun (replicate (length vertices) None) [] vertex) (unbegun vertex) e);
  failed = subst (IsFailedLine places (replicate (length vertices) None)) (sym failed) (λ vertex. ap has_cause (none_at (length vertices) vertex));
}
  where
    long : length frontier.waiting.items ≡ length vertices
    long = ap length counts ∙ length-map vertices (λ (vertex : Vertex). length vertex.inputs)

    unbegun : (vertex : ℕ) → is_begun (replicate (length vertices) None) [] vertex ≡ false
    unbegun vertex = ap (λ v. is_some v || false) (none_at (length vertices) vertex)

    counted : (vs : List Vertex) (vertex : ℕ) → slice_index (map (λ (v : Vertex). length v.inputs) vs) vertex ≡ length (inputs_at vs vertex)
    counted [] vertex = refl
    counted (v ∷ vs) zero = refl
    counted (v ∷ vs) (suc vertex) = counted vs vertex

    waiting : (vertex : ℕ) → slice_index frontier.waiting.items vertex ≡ length (inputs_at vertices vertex)
    waiting vertex = ap (λ xs. slice_index xs vertex) counts ∙ counted vertices vertex

    available : (vertex : ℕ) → (vertex < length vertices) ⊎ (length vertices ≤ vertex) → has frontier.available vertex ≡ is_available vertices (replicate (length vertices) None) [] vertex
    available vertex (inl l) =
        let here : has frontier.available vertex ≡ (slice_index frontier.waiting.items vertex == 0) = ap (λ xs. has xs vertex) empty ∙ get_or-map (λ count. count == 0) frontier.waiting.items vertex 0 false (omega (arith, l, long)) in
        let there : is_available vertices (replicate (length vertices) None) [] vertex ≡ (missing (replicate (length vertices) None) (inputs_at vertices vertex) == 0) =
        available-is vertices (replicate (length vertices) None) [] vertex ∙ (rw (some_within vertices vertex l, unbegun vertex) (and_true (missing (replicate (length vertices) None) (inputs_at vertices vertex) == 0))) in
        here ∙ (ap (λ n. n == 0) (waiting vertex ∙ sym (missing-none (length vertices) (inputs_at vertices vertex))) ∙ sym there)
    available vertex (inr past) =
        let out : has frontier.available vertex ≡ false = get_or_past frontier.available vertex false (let n = ap length empty ∙ (length-map frontier.waiting.items (λ count. count == 0) ∙ long) in omega (arith, past, n)) in
        let none : slice_get vertices vertex ≡ None = slice_get_past vertices vertex past in
        out ∙ sym (rw none refl)

-- a number that is in a set is below its bound
pub has-within : (members : List Bool) (number : ℕ) → has members number ≡ true → number < length members
has-within members number here = elim (cases_lt number (length members)) [
  | inl l ↦ l
  | inr past ↦ absurd (both_ways (has members number) (get_or_past members number false past) here)
]

-- a vertex that a worker may claim is available
pub claimable-available : (problem : Problem) (state : State) (worker vertex : ℕ) → claimable problem state worker ≡ Some vertex → is_available problem.vertices state.settled state.claims vertex ≡ true
claimable-available problem state worker vertex e = by_test (is_some (claim_of worker state.claims)) refl
  where
    by_test : (b : Bool) → is_some (claim_of worker state.claims) ≡ b → is_available problem.vertices state.settled state.claims vertex ≡ true
    by_test true t = (let f : None ≡ Some vertex = rw t at e in cc)
    by_test false t = (let f : least_ready problem state ≡ Some vertex = rw t at e in ready-available problem state vertex (least-some (is_ready problem state) (length problem.vertices) vertex f).passes)

-- where the target is settled, a worker may claim none
pub over-none : (problem : Problem) (state : State) (worker : ℕ) → is_some (value_at state.settled problem.target) ≡ true → None ≡ claimable problem state worker
over-none problem state worker over = sym (ap (cond (is_some (claim_of worker state.claims)) None) (none-ready problem state over) ∙ elim (is_some (claim_of worker state.claims)) as (λ b. cond {A = Option ℕ} b None None ≡ None) [ true ↦ refl | false ↦ refl ])

-- where it isn't, a worker without a claim may claim the least available vertex whose caches can be taken and whose line comes before that of each failure
pub claimable-least : (problem : Problem) (state : State) (worker : ℕ) (frontier : Frontier) (o : Option ℕ) → IsFrontier problem.vertices problem.places state.settled state.claims frontier → length state.settled ≡ length problem.vertices → is_some (value_at state.settled problem.target) ≡ false → is_some (claim_of worker state.claims) ≡ false → o ≡ least (λ vertex. has frontier.available vertex && (can_take state.holds (uses_at problem vertex) && comes_before (line_at problem vertex) frontier.failed)) (length problem.vertices) → o ≡ claimable problem state worker
claimable-least problem state worker frontier o is long over free e =
    e ∙ (least-ready problem state frontier is long over ∙ rw free refl)

-- the inputs of an available vertex have trees
pub available-trees : (vertices : List Vertex) (places : List (List ℕ)) (settled : List (Option TreeOrCause)) (claims : List ClaimOut) (frontier : Frontier) (takes : ℕ → Bool) (vertex : ℕ) (v : Vertex) → IsFrontier vertices places settled claims frontier → Some vertex ≡ least (λ k. has frontier.available k && takes k) (length vertices) → slice_get vertices vertex ≡ Some v → have_trees settled v.inputs ≡ true
available-trees vertices places settled claims frontier takes vertex v is e there =
    let found = least-some (λ k. has frontier.available k && takes k) (length vertices) vertex (sym e) in
    let open_here = (and_parts (has frontier.available vertex) (takes vertex) found.passes).0 in
    let available : is_available vertices settled claims vertex ≡ true = is.available vertex open_here in
    (and_parts (have_trees settled v.inputs) (not (is_begun settled claims vertex)) (rw there at available)).0

pub least-within : (test : ℕ → Bool) (n vertex : ℕ) → Some vertex ≡ least test n → vertex < n
least-within test n vertex e = (least-some test n vertex (sym e)).within
