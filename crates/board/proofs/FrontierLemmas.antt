-- What a board keeps of available vertices, through claims, settles and abandons.
use Rattle.std.proofs.Common.{◌≡◌, ◌≢◌, ℕ, suc, ◌+◌, ◌<◌, ◌==◌, Bool, true, false, not, ◌&&◌, ◌||◌, cond, ◌⊎◌, inl, inr, List, [], ◌∷◌, ◌++◌, length, replicate, Option, Some, None, is_some, Ok, Err, refl, sym, ap, ◌∙◌, subst, arith}
use Rattle.std.specs.Prelude.{slice_get, slice_set}
use Rattle.std.proofs.lemmas.Bool.{cases_lt, cases_eq, eqb-true, eqb-false, eq-eqb, ne_eqb, or_left, or_right, and_right, true_from_ne_false}
use Rattle.std.proofs.lemmas.List.{length-replicate, get_or-set_same, get_or-set_other, get_or-replicate, get_or_past}
use Rattle.std.proofs.lemmas.List.Folds.{list_any-append}
use Rattle.std.proofs.Math.Bool.{or-false}
use Rattle.trees.specs.TreeMap.{TreeMap}
use Rattle.trees.specs.declared.cause.Cause.{Cause}
use Rattle.trees.specs.Cause.{TreeOrCause}
use Rattle.llb.specs.declared.vertex.Vertex.{Vertex}
use Rattle.plans.specs.Plan.{Problem}
use Rattle.board.specs.Readiness.{has_tree}
use Rattle.board.specs.Problem.{IsProblem}
use Rattle.board.specs.Play.{Run, IsReplay, value_at, have_trees, is_claimed, claim_of, without, vertex_of}
use Rattle.board.specs.PrivateClaim.{AreApart}
use Rattle.board.specs.Legal.{vertex_out}
use Rattle.board.specs.PrivateFrontier.{times, missing, inputs_at, is_begun, is_available}
use Rattle.board.proofs.ListLemmas.{claim_of-without, AreApart-without, is_claimed-false, is_claimed-none, placed-is}
use Rattle.board.proofs.PlayLemmas.{replay-right}
use Rattle.board.proofs.SoundLemmas.{sound}
use Rattle.board.specs.declared.claim.ClaimOut.{ClaimOut}

shifted : (k m t n : ℕ) → m + t ≡ n → (k + m) + (0 + t) ≡ k + n
shifted k m t n e = omega (arith, e)

one_less : (m t n : ℕ) → m + t ≡ n → (0 + m) + (1 + t) ≡ 1 + n
one_less m t n e = omega (arith, e)

-- where a vertex is settled with a tree, so many inputs less are missing as the vertex is among them
pub missing-tree : (settled : List (Option TreeOrCause)) (vertex : ℕ) (tree : TreeMap) (inputs : List ℕ) → vertex < length settled → value_at settled vertex ≡ None → missing (slice_set settled vertex (Some (Ok tree))) inputs + times vertex inputs ≡ missing settled inputs
missing-tree settled vertex tree [] l none = refl
missing-tree settled vertex tree (input ∷ inputs) l none = by_test (input == vertex) refl (missing-tree settled vertex tree inputs l none)
  where
    by_test : (b : Bool) → (input == vertex) ≡ b → missing (slice_set settled vertex (Some (Ok tree))) inputs + times vertex inputs ≡ missing settled inputs → missing (slice_set settled vertex (Some (Ok tree))) (input ∷ inputs) + times vertex (input ∷ inputs) ≡ missing settled (input ∷ inputs)
    by_test true t rest =
        let same : input ≡ vertex = eqb-true input vertex t in
        let now : has_tree (value_at (slice_set settled vertex (Some (Ok tree))) input) ≡ true = ap (λ i. has_tree (value_at (slice_set settled vertex (Some (Ok tree))) i)) same ∙ ap has_tree (get_or-set_same settled vertex (Some (Ok tree)) None l) in
        let was : has_tree (value_at settled input) ≡ false = ap (λ i. has_tree (value_at settled i)) same ∙ ap has_tree none in
        rw (t, now, was) (one_less (missing (slice_set settled vertex (Some (Ok tree))) inputs) (times vertex inputs) (missing settled inputs) rest)
    by_test false t rest =
        let same : value_at (slice_set settled vertex (Some (Ok tree))) input ≡ value_at settled input = get_or-set_other settled vertex input (Some (Ok tree)) None (eqb-false input vertex t) in
        rw (t, same) (shifted (cond (has_tree (value_at settled input)) 0 1) (missing (slice_set settled vertex (Some (Ok tree))) inputs) (times vertex inputs) (missing settled inputs) rest)

-- where a vertex is settled with a cause, the same inputs are missing
pub missing-cause : (settled : List (Option TreeOrCause)) (vertex : ℕ) (cause : Cause) (inputs : List ℕ) → vertex < length settled → value_at settled vertex ≡ None → missing (slice_set settled vertex (Some (Err cause))) inputs ≡ missing settled inputs
missing-cause settled vertex cause [] l none = refl
missing-cause settled vertex cause (input ∷ inputs) l none = rw (missing-cause settled vertex cause inputs l none) (ap (λ b. cond b 0 1 + missing settled inputs) (here (cases_eq input vertex)))
  where
    here : (input ≡ vertex) ⊎ (input ≡ vertex → ⊥) → has_tree (value_at (slice_set settled vertex (Some (Err cause))) input) ≡ has_tree (value_at settled input)
    here (inl same) =
        let now : has_tree (value_at (slice_set settled vertex (Some (Err cause))) input) ≡ false = ap (λ i. has_tree (value_at (slice_set settled vertex (Some (Err cause))) i)) same ∙ ap has_tree (get_or-set_same settled vertex (Some (Err cause)) None l) in
        let was : has_tree (value_at settled input) ≡ false = ap (λ i. has_tree (value_at settled i)) same ∙ ap has_tree none in
        now ∙ sym was
    here (inr other) = ap has_tree (get_or-set_other settled vertex input (Some (Err cause)) None other)

-- all inputs have trees where none is missing
pub trees-missing : (settled : List (Option TreeOrCause)) (inputs : List ℕ) → have_trees settled inputs ≡ (missing settled inputs == 0)
trees-missing settled [] = refl
trees-missing settled (input ∷ inputs) = by_test (has_tree (value_at settled input)) refl (trees-missing settled inputs)
  where
    by_test : (b : Bool) → has_tree (value_at settled input) ≡ b → have_trees settled inputs ≡ (missing settled inputs == 0) → have_trees settled (input ∷ inputs) ≡ (missing settled (input ∷ inputs) == 0)
    by_test true t rest =
        let same : missing settled inputs ≡ 0 + missing settled inputs = omega arith in
        rw t (rest ∙ ap (λ n. n == 0) same)
    by_test false t rest =
        let some : 1 + missing settled inputs ≢ 0 = omega arith in
        rw t (sym (ne_eqb (1 + missing settled inputs) 0 some))

pub none_at : (n vertex : ℕ) → value_at (replicate n None) vertex ≡ None
none_at n vertex = elim (cases_lt vertex n) [
  | inl l ↦ get_or-replicate n vertex None None l
  | inr past ↦ get_or_past (replicate n None) vertex None (rw (length-replicate {A = Option TreeOrCause} n None) past)
]

-- where nothing is settled, all inputs are missing
pub missing-none : (n : ℕ) (inputs : List ℕ) → missing (replicate n None) inputs ≡ length inputs
missing-none n [] = refl
missing-none n (input ∷ inputs) =
    let one : 1 + length inputs ≡ suc (length inputs) = omega arith in
    rw (missing-none n inputs) (ap (λ value. cond (has_tree value) 0 1 + length inputs) (none_at n input) ∙ one)

-- the claim of a worker is the only one of its vertex, and the vertex isn't settled
pub record IsAlone (vertices : List Vertex) (settled : List (Option TreeOrCause)) (claims : List ClaimOut) (claim : ClaimOut) : Type 0 where
  pub out : claim_of claim.worker claims ≡ Some claim
  pub apart : AreApart claims
  pub alone : (worker : ℕ) → vertex_of (claim_of worker claims) ≡ Some claim.vertex → worker ≡ claim.worker
  pub unsettled : value_at settled claim.vertex ≡ None
  pub within : claim.vertex < length settled
  pub vertex_within : claim.vertex < length vertices

pub replay-alone : (problem : Problem) (run : Run) (claim : ClaimOut) → IsProblem problem → IsReplay problem run → claim_of claim.worker run.state.claims ≡ Some claim → IsAlone problem.vertices run.state.settled run.state.claims claim
replay-alone problem run claim plan replay out =
    let agrees = (replay-right problem run (sound problem plan) replay).agrees in
    let holds : vertex_out run.history claim.worker ≡ Some claim.vertex = sym (agrees.claims claim.worker) ∙ ap vertex_of out in
    let pending = agrees.pending claim.worker claim.vertex holds in
    let long = agrees.long in
    record {
      out = out;
      apart = agrees.apart;
      alone = λ worker e. agrees.alone worker claim.worker claim.vertex (sym (agrees.claims worker) ∙ e) holds;
      unsettled = agrees.settled claim.vertex ∙ rw pending.unsettled refl;
      within = omega (arith, pending.within, long);
      vertex_within = pending.within;
    }

pub claimed-out : (claims : List ClaimOut) (claim : ClaimOut) → claim_of claim.worker claims ≡ Some claim → is_claimed claim.vertex claims ≡ true
claimed-out claims claim out =
    true_from_ne_false (is_claimed claim.vertex claims) (λ none. is_claimed-false claim.vertex claims none claim.worker (ap vertex_of out))

claimed-gone : (vertices : List Vertex) (settled : List (Option TreeOrCause)) (claims : List ClaimOut) (claim : ClaimOut) → IsAlone vertices settled claims claim → is_claimed claim.vertex (without claim.worker claims) ≡ false
claimed-gone vertices settled claims claim is = is_claimed-none claim.vertex (without claim.worker claims) (AreApart-without claim.worker claims is.apart) (λ worker. by_test worker (claim.worker == worker) refl)
  where
    by_test : (worker : ℕ) (b : Bool) → (claim.worker == worker) ≡ b → vertex_of (claim_of worker (without claim.worker claims)) ≢ Some claim.vertex
    by_test worker true t e =
        let none : claim_of worker (without claim.worker claims) ≡ None = claim_of-without worker claim.worker claims ∙ rw t refl in
        let f : None ≡ Some claim.vertex = rw none at e in
        cc
    by_test worker false t e =
        let kept : claim_of worker (without claim.worker claims) ≡ claim_of worker claims = claim_of-without worker claim.worker claims ∙ rw t refl in
        eqb-false claim.worker worker t (sym (is.alone worker (ap vertex_of (sym kept) ∙ e)))

claimed_kept : (vertex gone : ℕ) (claims : List ClaimOut) → ((place : ℕ) (claim : ClaimOut) → slice_get claims place ≡ Some claim → claim.worker ≡ gone → claim.vertex ≢ vertex) → is_claimed vertex (without gone claims) ≡ is_claimed vertex claims
claimed_kept vertex gone [] others = refl
claimed_kept vertex gone (first ∷ claims) others = by_test (first.worker == gone) refl (claimed_kept vertex gone claims (λ place. others (suc place)))
  where
    by_test : (b : Bool) → (first.worker == gone) ≡ b → is_claimed vertex (without gone claims) ≡ is_claimed vertex claims → is_claimed vertex (without gone (first ∷ claims)) ≡ is_claimed vertex (first ∷ claims)
    by_test true t rest =
        let other : (first.vertex == vertex) ≡ false = ne_eqb first.vertex vertex (others 0 first refl (eqb-true first.worker gone t)) in
        rw (t, other) rest
    by_test false t rest = rw t (ap (λ b. (first.vertex == vertex) || b) rest)

claimed-other : (vertices : List Vertex) (settled : List (Option TreeOrCause)) (claims : List ClaimOut) (claim : ClaimOut) (vertex : ℕ) → IsAlone vertices settled claims claim → claim.vertex ≢ vertex → is_claimed vertex (without claim.worker claims) ≡ is_claimed vertex claims
claimed-other vertices settled claims claim vertex is other = claimed_kept vertex claim.worker claims (λ place found there by same. other (own found (placed-is place claims found is.apart there) by ∙ same))
  where
    own : (found : ClaimOut) → claim_of found.worker claims ≡ Some found → found.worker ≡ claim.worker → claim.vertex ≡ found.vertex
    own found there by =
        let here : claim_of claim.worker claims ≡ Some found = ap (λ w. claim_of w claims) (sym by) ∙ there in
        let e : Some claim ≡ Some found = sym is.out ∙ here in
        let same : claim ≡ found = cc in
        ap (λ c. c.vertex) same

-- a settle leaves begun what was, and begins nothing
pub begun-settle : (vertices : List Vertex) (settled : List (Option TreeOrCause)) (claims : List ClaimOut) (claim : ClaimOut) (value : TreeOrCause) (vertex : ℕ) → IsAlone vertices settled claims claim → is_begun (slice_set settled claim.vertex (Some value)) (without claim.worker claims) vertex ≡ is_begun settled claims vertex
begun-settle vertices settled claims claim value vertex is = elim (cases_eq claim.vertex vertex) [
  | inl same ↦ subst (λ v. is_begun (slice_set settled claim.vertex (Some value)) (without claim.worker claims) v ≡ is_begun settled claims v) same here
  | inr other ↦ there other
]
  where
    here : is_begun (slice_set settled claim.vertex (Some value)) (without claim.worker claims) claim.vertex ≡ is_begun settled claims claim.vertex
    here =
        let now : is_some (value_at (slice_set settled claim.vertex (Some value)) claim.vertex) ≡ true = ap is_some (get_or-set_same settled claim.vertex (Some value) None is.within) in
        or_left (is_some (value_at (slice_set settled claim.vertex (Some value)) claim.vertex)) (is_claimed claim.vertex (without claim.worker claims)) now
        ∙ sym (or_right (is_some (value_at settled claim.vertex)) (is_claimed claim.vertex claims) (claimed-out claims claim is.out))

    there : claim.vertex ≢ vertex → is_begun (slice_set settled claim.vertex (Some value)) (without claim.worker claims) vertex ≡ is_begun settled claims vertex
    there other =
        let kept : value_at (slice_set settled claim.vertex (Some value)) vertex ≡ value_at settled vertex = get_or-set_other settled claim.vertex vertex (Some value) None (λ e. other (sym e)) in
        ap (λ v. is_some v || is_claimed vertex (without claim.worker claims)) kept ∙ ap (λ b. is_some (value_at settled vertex) || b) (claimed-other vertices settled claims claim vertex is other)

and_true : (b : Bool) → (b && true) ≡ b
and_true true = refl
and_true false = refl

-- an abandon leaves begun what was, but for its vertex
pub begun-abandon : (vertices : List Vertex) (settled : List (Option TreeOrCause)) (claims : List ClaimOut) (claim : ClaimOut) (vertex : ℕ) → IsAlone vertices settled claims claim → is_begun settled (without claim.worker claims) vertex ≡ (is_begun settled claims vertex && not (claim.vertex == vertex))
begun-abandon vertices settled claims claim vertex is = elim (cases_eq claim.vertex vertex) [
  | inl same ↦ subst (λ v. is_begun settled (without claim.worker claims) v ≡ (is_begun settled claims v && not (claim.vertex == v))) same here
  | inr other ↦ there other
]
  where
    here : is_begun settled (without claim.worker claims) claim.vertex ≡ (is_begun settled claims claim.vertex && not (claim.vertex == claim.vertex))
    here =
        let none : is_begun settled (without claim.worker claims) claim.vertex ≡ false = ap (λ v. is_some v || is_claimed claim.vertex (without claim.worker claims)) is.unsettled ∙ claimed-gone vertices settled claims claim is in
        none ∙ sym (and_right (is_begun settled claims claim.vertex) (not (claim.vertex == claim.vertex)) (ap not (eq-eqb claim.vertex claim.vertex refl)))

    there : claim.vertex ≢ vertex → is_begun settled (without claim.worker claims) vertex ≡ (is_begun settled claims vertex && not (claim.vertex == vertex))
    there other =
        ap (λ b. is_some (value_at settled vertex) || b) (claimed-other vertices settled claims claim vertex is other)
        ∙ (sym (and_true (is_begun settled claims vertex)) ∙ ap (λ b. is_begun settled claims vertex && not b) (sym (ne_eqb claim.vertex vertex other)))

or_again : (a b c : Bool) → (a || (b || c)) ≡ ((a || b) || c)
or_again true b c = refl
or_again false b c = refl

-- a claim begins its vertex
pub begun-claim : (settled : List (Option TreeOrCause)) (claims : List ClaimOut) (claim : ClaimOut) (vertex : ℕ) → is_begun settled (claims ++ claim ∷ []) vertex ≡ (is_begun settled claims vertex || (claim.vertex == vertex))
begun-claim settled claims claim vertex =
    let more : is_claimed vertex (claims ++ claim ∷ []) ≡ (is_claimed vertex claims || (claim.vertex == vertex)) = list_any-append (λ (c : ClaimOut). c.vertex == vertex) claims (claim ∷ []) ∙ ap (λ b. is_claimed vertex claims || b) (or-false (claim.vertex == vertex)) in
    ap (λ b. is_some (value_at settled vertex) || b) more ∙ or_again (is_some (value_at settled vertex)) (is_claimed vertex claims) (claim.vertex == vertex)

-- a vertex is available where it is one, none of its inputs is missing and it wasn't begun
pub available-is : (vertices : List Vertex) (settled : List (Option TreeOrCause)) (claims : List ClaimOut) (vertex : ℕ) → is_available vertices settled claims vertex ≡ ((is_some (slice_get vertices vertex) && (missing settled (inputs_at vertices vertex) == 0)) && not (is_begun settled claims vertex))
available-is vertices settled claims vertex = by_place (slice_get vertices vertex) refl
  where
    by_place : (o : Option Vertex) → slice_get vertices vertex ≡ o → is_available vertices settled claims vertex ≡ ((is_some (slice_get vertices vertex) && (missing settled (inputs_at vertices vertex) == 0)) && not (is_begun settled claims vertex))
    by_place None e = rw e refl
    by_place (Some v) e = rw e (ap (λ b. b && not (is_begun settled claims vertex)) (trees-missing settled v.inputs))

pub nowhere : (vertices : List Vertex) (settled : List (Option TreeOrCause)) (vertex : ℕ) → is_some (slice_get vertices vertex) ≡ false → missing settled (inputs_at vertices vertex) ≡ 0
nowhere vertices settled vertex none = by_place (slice_get vertices vertex) refl
  where
    by_place : (o : Option Vertex) → slice_get vertices vertex ≡ o → missing settled (inputs_at vertices vertex) ≡ 0
    by_place None e = rw e refl
    by_place (Some v) e = (let f : true ≡ false = rw e at none in cc)
