-- Marking what the target reaches.
use Rattle.std.proofs.Common.{◌≡◌, ◌<◌, ◌≤◌, ◌-◌, ℕ, Bool, true, false, List, [], ◌∷◌, ◌++◌, length, Some, refl, sym, ap, ◌∙◌, subst, arith}
use Rattle.std.specs.Prelude.{slice_get, slice_set, Contains}
use Rattle.std.specs.List.{All}
use Rattle.std.proofs.lemmas.Option.{slice_get_within}
use Rattle.std.proofs.lemmas.List.Elements.{Contains-push, Contains-push_cases, Contains-append_left, All-contains, All-weaker}
use Rattle.plain.specs.Marks.{is_marked}
use Rattle.plain.specs.PrivateMarks.{MarksMore, MarksReached}
use Rattle.plain.proofs.MarkFacts.{MarkedFrom, marks_none, marks_one, marks_same, marks_both, marked_first, marked_step}
use Rattle.llb.specs.declared.vertex.Vertex.{Vertex}
use Rattle.llb.specs.Graph.{IsAfterInputs}
use Rattle.llb.specs.Reach.{HasInput}
use Rattle.reached.specs.Reached.{AreReached}

-- each vertex stands after its inputs
abbrev pub AreAfter : List Vertex → Type 0
AreAfter vertices = (k : ℕ) (vertex : Vertex) → slice_get vertices k ≡ Some vertex → IsAfterInputs k vertex

-- what is marked by steps to inputs is what the target reaches
pub reached : (vertices : List Vertex) (target : ℕ) (marks : List Bool) → MarksReached (HasInput vertices) (length vertices) target marks
    → AreReached vertices target marks
reached vertices target marks are = record { long = are.long; has_first = are.has_first; closed = are.closed; only = are.only }

pub none_more : (marks : List Bool) (ids : List ℕ) → ids ≡ [] → MarksMore marks marks (Contains ids)
none_more marks ids none = marks_none marks (Contains ids) (λ k h. omega (arith, ap length none, h.1))

pub one_more : (old new : List Bool) (done : List ℕ) (id : ℕ) → id < length old → MarksMore old new (Contains done)
    → MarksMore old (slice_set new id true) (Contains (done ++ id ∷ []))
one_more old new done id lt so_far =
    marks_both old new (slice_set new id true) (Contains done) (λ k. id ≡ k) (Contains (done ++ id ∷ [])) so_far
    (marks_one new id (λ k. id ≡ k) (omega (arith, lt, so_far.long)) refl (λ k same. same)) (Contains-push_cases done id)
    (Contains-append_left done (id ∷ [])) (λ k same. subst (Contains (done ++ id ∷ [])) same (Contains-push done id))

input_below : (vertices : List Vertex) (vertex input : ℕ) → AreAfter vertices → HasInput vertices vertex input → input < vertex
input_below vertices vertex input are has = All-contains (λ i. i < vertex) has.v.inputs input (are vertex has.v has.there) has.among

same_vertex : (vertices : List Vertex) (vertex : ℕ) (v u : Vertex) → slice_get vertices vertex ≡ Some v → slice_get vertices vertex ≡ Some u → v ≡ u
same_vertex vertices vertex v u a b = cc

-- the target is marked
pub target_marked : (vertices : List Vertex) (target : ℕ) (none marks : List Bool) (at : ℕ) → length none ≡ length vertices
    → ((k : ℕ) → is_marked none k ≡ false) → target < length vertices → marks ≡ slice_set none target true → at ≡ length vertices
    → MarkedFrom (HasInput vertices) (length vertices) target at marks
target_marked vertices target none marks at long unmarked lt is from_end =
    marked_first (HasInput vertices) (length vertices) target none marks at (λ vertex input has. slice_get_within vertices vertex has.v has.there) long
    unmarked lt is from_end

-- a marked vertex's inputs were marked
pub inputs_marked : (vertices : List Vertex) (target at next : ℕ) (v : Vertex) (old new : List Bool) (ids : List ℕ) → AreAfter vertices
    → MarkedFrom (HasInput vertices) (length vertices) target at old → 0 < at → next ≡ at - 1 → slice_get vertices next ≡ Some v → is_marked old next ≡ true
    → ids ≡ v.inputs → MarksMore old new (Contains ids) → MarkedFrom (HasInput vertices) (length vertices) target next new
inputs_marked vertices target at next v old new ids are so_far pos is there marked same more =
    let back : (k : ℕ) → HasInput vertices next k → Contains ids k =
    λ k has. subst (λ is. Contains is k) (ap (λ (u : Vertex). u.inputs) (same_vertex vertices next has.v v has.there there) ∙ sym same) has.among in
    let on : (k : ℕ) → Contains ids k → HasInput vertices next k =
    λ k among. record { v = v; there = there; among = subst (λ is. Contains is k) same among } in
    marked_step (HasInput vertices) (length vertices) target at next old new (λ vertex input has. input_below vertices vertex input are has) so_far pos is
    marked (marks_same old new (Contains ids) (HasInput vertices next) more back on)

pub inputs_inside : (vertices : List Vertex) (at n : ℕ) (v : Vertex) → AreAfter vertices → slice_get vertices at ≡ Some v → at ≤ n
    → All (λ i. i < n) v.inputs
inputs_inside vertices at n v are there le = All-weaker (λ i. i < at) (λ i. i < n) (λ i lt. omega (arith, lt, le)) v.inputs (are at v there)
