-- Graphs on flat inputs, and what is made of them.
use Rattle.std.proofs.Common.{◌≡◌, ◌<◌, ◌≤◌, ℕ, Bool, true, List, length, Some, sym, ap, ◌∙◌, subst, arith}
use Rattle.std.specs.Prelude.{IsTrue, Contains, slice_get}
use Rattle.std.proofs.lemmas.List.Elements.{All-contains}
use Rattle.std.proofs.lemmas.Option.{slice_get_within}
use Rattle.plain.specs.Limits.{most_vertices}
use Rattle.plain.specs.Marks.{is_marked}
use Rattle.llb.specs.declared.vertex.Vertex.{Vertex}
use Rattle.llb.specs.Graph.{GraphValue, IsGraph, AreVertices}
use Rattle.llb.specs.WellFormed.{is_well_formed, is_well_formed_on}
use Rattle.reached.specs.Reached.{AreReached, AreOnFlat}
use Rattle.reached.specs.Spelled.{flat_inputs, flat_vertex, flat_vertices}
use Rattle.reached.proofs.FlatFacts.{flat_there, flat_back, as_many, flat_after}
use Rattle.reached.proofs.SpellingFacts.{there_is, flat_long}
use Rattle.rewrite.specs.PrivateJoined.{AreJoinable, AreJoined}
use Rattle.rewrite.specs.PrivateSpelled.{flat_graph}
use Rattle.rewrite.specs.Pruned.{Names}

-- an operation is well formed on its flat inputs
pub inputs_fit : (vs : List Vertex) (at : ℕ) (v : Vertex) → AreVertices vs → slice_get vs at ≡ Some v → IsTrue (is_well_formed_on v.op (length (flat_inputs vs v.op v.inputs)))
inputs_fit vs at v are there =
    let within = slice_get_within vs at v there in
    flat_long vs are v.op v.inputs (λ k d lt. (let low = are.after at v there k d lt in omega (arith, low, within))) (are.well_formed at v there)

-- ---- vertices that are marked, on their flat inputs

on_back : (vs : List Vertex) (marks : List Bool) (new : List Vertex) (k : ℕ) (u : Vertex) → AreOnFlat vs marks new → is_marked marks k ≡ true
    → slice_get new k ≡ Some u → (v : Vertex) × (slice_get vs k ≡ Some v) × (u ≡ flat_vertex vs v)
on_back vs marks new k u on marked there =
    let within = slice_get_within new k u there in
    let v = there_is vs k (omega (arith, within, on.long)) in
    (v.0, v.1, (let same : Some u ≡ Some (flat_vertex vs v.0) = sym there ∙ on.there k v.0 marked v.1 in cc))

-- so they can make a graph
pub flat_joinable : (graph : GraphValue) (target : ℕ) (marks : List Bool) (new : List Vertex) → IsGraph graph
    → AreReached (flat_vertices graph.vertices) target marks → AreOnFlat graph.vertices marks new
    → AreJoinable (record { vertices = new; places = graph.places }) marks
flat_joinable graph target marks new is reached on = record {
  few = subst (λ n. n ≤ most_vertices) (sym on.long) is.vertices.few;
  beside = is.beside ∙ sym on.long;
  places = is.places;
  long = reached.long ∙ (as_many graph.vertices ∙ sym on.long);
  well_formed = λ k u marked there.
      (let v = on_back graph.vertices marks new k u on marked there in
      subst (λ (x : Vertex). IsTrue (is_well_formed x)) (sym v.2) (inputs_fit graph.vertices k v.0 is.vertices v.1));
  inputs = λ k input marked has.
      (let v = on_back graph.vertices marks new k has.v on marked has.there in
      let flat = flat_there graph.vertices k v.0 v.1 in
      let among : Contains (flat_inputs graph.vertices v.0.op v.0.inputs) input = subst (λ (x : Vertex). Contains x.inputs input) v.2 has.among in
      let all = flat_after graph.vertices is.vertices k (flat_vertex graph.vertices v.0) flat in (
        All-contains (λ i. i < k) (flat_inputs graph.vertices v.0.op v.0.inputs) input all among,
        reached.closed k input marked (record { v = flat_vertex graph.vertices v.0; there = flat; among = among }),
      ));
}

-- and what is made of them is made of the graph on its flat inputs
pub joined_flat : (graph new : GraphValue) (marks : List Bool) (vertices : List Vertex) (at : ℕ) (names : Names) → AreOnFlat graph.vertices marks vertices
    → AreJoined (record { vertices = vertices; places = graph.places }) marks at new names → AreJoined (flat_graph graph) marks at new names
joined_flat graph new marks vertices at names on joined = record {
  long = joined.long;
  few = joined.few;
  beside = joined.beside;
  named = joined.named;
  marked = joined.marked;
  inside = joined.inside;
  onto = joined.onto;
  ordered = joined.ordered;
  same = λ k id u name there.
      (let v = flat_back graph.vertices k u there in
      joined.same k id u name (on.there k v.0 (joined.marked k id name) v.1 ∙ ap Some (sym v.2)));
  lines = joined.lines;
  only = joined.only;
}
