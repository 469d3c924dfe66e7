-- Vertices of which no two are equal don't become equal on their new numbers, so each of them is new where it comes.
use Rattle.std.proofs.Common.{◌≡◌, ◌<◌, ◌≤◌, ◌+◌, ◌-◌, ℕ, zero, suc, Bool, true, false, List, [], ◌∷◌, ◌++◌, Some, inl, inr, refl, sym, ap, ap₂, ◌∙◌, subst, arith, length, length-append}
use Rattle.std.specs.Prelude.{get_or, slice_get, slice_index_or}
use Rattle.std.specs.List.{All}
use Rattle.std.proofs.lemmas.List.{get_or-append-add}
use Rattle.std.proofs.lemmas.List.Elements.{All-head, All-tail, All-weaker, Contains-get_or}
use Rattle.std.proofs.lemmas.Option.{slice_get_within}
use Rattle.llb.specs.declared.op.Op.{Op}
use Rattle.llb.specs.declared.op.Op.TheVariants.{Merge as MergeOp}
use Rattle.llb.specs.declared.vertex.Vertex.{Vertex}
use Rattle.llb.specs.Graph.{GraphValue, AreVertices, IsGraph}
use Rattle.plain.specs.Marks.{is_marked}
use Rattle.reached.proofs.FlatFacts.{flat_there, flat_back}
use Rattle.reached.proofs.SpellingFacts.{there_is, merge_is, merge_has_two, flat_other}
use Rattle.reached.specs.Reached.{AreReached, AreOnFlat, AreFlattened}
use Rattle.reached.specs.Spelled.{with_first, spelled_out, flat_inputs, flat_vertex, flat_vertices, is_merge}
use Rattle.rewrite.specs.PrivateFlat.{MergesDiffer, last_of}
use Rattle.rewrite.specs.PrivateJoined.{AreJoinable, AreDistinct, ComesNew, AreJoined}
use Rattle.rewrite.specs.Pruned.{Names, AreNames, IsRenamed}
use Rattle.rewrite.proofs.PairFacts.{pairs_differ}
use Rattle.rewrite.proofs.ReachFacts.{flat_reached}
use Rattle.rewrite.proofs.MarkedFacts.{reached_marked}

abbrev vertex_of : Op → List ℕ → Vertex
vertex_of op inputs = record { op = op; inputs = inputs }

-- inputs that have the same new numbers are the same, where none of those below a number share one
pub same_olds : (names : Names) (n : ℕ) (os ps news : List ℕ)
    → ((j k a : ℕ) → j < n → k < n → slice_get names j ≡ Some (Some a) → slice_get names k ≡ Some (Some a) → j ≡ k)
    → All (λ i. i < n) os → All (λ i. i < n) ps → AreNames names os news → AreNames names ps news → os ≡ ps
same_olds names n [] [] [] one low less a b = refl
same_olds names n [] [] (m ∷ ms) one low less a b = absurd a
same_olds names n [] (p ∷ ps) [] one low less a b = absurd b
same_olds names n [] (p ∷ ps) (m ∷ ms) one low less a b = absurd a
same_olds names n (o ∷ os) [] [] one low less a b = absurd a
same_olds names n (o ∷ os) [] (m ∷ ms) one low less a b = absurd b
same_olds names n (o ∷ os) (p ∷ ps) [] one low less a b = absurd a
same_olds names n (o ∷ os) (p ∷ ps) (m ∷ ms) one low less a b =
    ap₂ (λ (x : ℕ) (xs : List ℕ). x ∷ xs)
    (one o p m (All-head (λ i. i < n) o os low) (All-head (λ i. i < n) p ps less) a.0 b.0)
    (same_olds names n os ps ms one (All-tail (λ i. i < n) o os low) (All-tail (λ i. i < n) p ps less) a.1 b.1)

-- a graph has each vertex once
pub once_distinct : (graph : GraphValue) (marks : List Bool) → IsGraph graph → AreDistinct graph.vertices marks
once_distinct graph marks is j k v at_j at_k there_j there_k = is.vertices.once j k v there_j there_k

-- inputs of what is marked stand before it
abbrev pub InputsFirst : List Vertex → List Bool → Type 0
InputsFirst vertices marks = (k : ℕ) (v : Vertex) → is_marked marks k ≡ true → slice_get vertices k ≡ Some v → All (λ i. i < k) v.inputs

pub joinable_first : (old : GraphValue) (marks : List Bool) → AreJoinable old marks → InputsFirst old.vertices marks
joinable_first old marks can k v marked there i d lt =
    (can.inputs k (slice_index_or v.inputs i d) marked (record { v = v; there = there; among = Contains-get_or v.inputs i d lt })).0

module _ (old new : GraphValue) (marks : List Bool) (names : Names) (at : ℕ) (within : at ≤ length old.vertices) (first : InputsFirst old.vertices marks)
    (distinct : AreDistinct old.vertices marks) (joined : AreJoined old marks at new names) where
  vertex_there : (k id : ℕ) → slice_get names k ≡ Some (Some id) → (v : Vertex) × (slice_get old.vertices k ≡ Some v)
  vertex_there k id name = there_is old.vertices k (let lt = slice_get_within names k (Some id) name in omega (arith, lt, joined.long, within))

  -- two vertices below a number don't have one new number, since none of their inputs do, and so they would be equal
  pub one_below : (n j k a : ℕ) → j < n → k < n → slice_get names j ≡ Some (Some a) → slice_get names k ≡ Some (Some a) → j ≡ k
  one_below zero j k a low less e f = absurd (omega (arith, low))
  one_below (suc n) j k a low less e f =
      let v = vertex_there j a e in
      let w = vertex_there k a f in
      let s = joined.same j a v.0 e v.1 in
      let t = joined.same k a w.0 f w.1 in
      let one : t.0 ≡ s.0 = (let g : Some t.0 ≡ Some s.0 = sym t.1 ∙ s.1 in cc) in
      let other : IsRenamed names w.0 s.0 = subst (IsRenamed names w.0) one t.2 in
      let inputs : v.0.inputs ≡ w.0.inputs = same_olds names n v.0.inputs w.0.inputs s.0.inputs (one_below n)
      (All-weaker (λ i. i < j) (λ i. i < n) (λ i lt. omega (arith, lt, low)) v.0.inputs (first j v.0 (joined.marked j a e) v.1))
      (All-weaker (λ i. i < k) (λ i. i < n) (λ i lt. omega (arith, lt, less)) w.0.inputs (first k w.0 (joined.marked k a f) w.1))
      s.2.inputs other.inputs in
      let ops : v.0.op ≡ w.0.op = sym s.2.op ∙ other.op in
      distinct j k w.0 (joined.marked j a e) (joined.marked k a f) (v.1 ∙ ap Some (ap₂ vertex_of ops inputs)) w.1

  -- the next one is new
  pub comes_new : (v : Vertex) → slice_get old.vertices at ≡ Some v → is_marked marks at ≡ true → ComesNew new names v
  comes_new v there marked renamed is m e =
      let k = joined.onto m (slice_get_within new.vertices m renamed e) in
      let low = slice_get_within names k.0 (Some m) k.1 in
      let w = vertex_there k.0 m k.1 in
      let s = joined.same k.0 m w.0 k.1 w.1 in
      let one : s.0 ≡ renamed = (let f : Some s.0 ≡ Some renamed = sym s.1 ∙ e in cc) in
      let other : IsRenamed names w.0 renamed = subst (IsRenamed names w.0) one s.2 in
      let inputs : w.0.inputs ≡ v.inputs = same_olds names at w.0.inputs v.inputs renamed.inputs (one_below at)
      (All-weaker (λ i. i < k.0) (λ i. i < at) (λ i lt. omega (arith, lt, low, joined.long)) w.0.inputs (first k.0 w.0 (joined.marked k.0 m k.1) w.1))
      (first at v marked there)
      other.inputs is.inputs in
      let ops : w.0.op ≡ v.op = sym other.op ∙ is.op in
      let same : k.0 ≡ at = distinct k.0 at v (joined.marked k.0 m k.1) marked (w.1 ∙ ap Some (ap₂ vertex_of ops inputs)) there in
      absurd (omega (arith, same, low, joined.long))

-- ---- on flat inputs

-- the last of some and of more of them
last_over : (xs ys : List ℕ) → 1 ≤ length ys → last_of (xs ++ ys) ≡ last_of ys
last_over xs ys some =
    let long = length-append xs ys in
    let at : length (xs ++ ys) - 1 ≡ length xs + (length ys - 1) = omega (arith, long, some) in
    ap (λ n. get_or (xs ++ ys) n 0) at ∙ get_or-append-add xs ys (length ys - 1) 0

module _ (vs : List Vertex) (are : AreVertices vs) where
  last_with : (inputs : List ℕ) → 2 ≤ length inputs → last_of (with_first (spelled_out vs) inputs) ≡ last_of inputs
  last_with [] two = absurd (omega (arith, two))
  last_with (first ∷ rest) two = last_over (spelled_out vs first) rest (omega (arith, two)) ∙ sym (last_over (first ∷ []) rest (omega (arith, two)))

  -- a merge on its flat inputs has the last input that it had
  last_flat : (k : ℕ) (v : Vertex) → slice_get vs k ≡ Some v → v.op ≡ MergeOp → last_of (flat_inputs vs v.op v.inputs) ≡ last_of v.inputs
  last_flat k v there merge =
      ap (λ (op : Op). last_of (flat_inputs vs op v.inputs)) merge ∙ last_with v.inputs (merge_has_two vs are v k there merge)

  -- what is no merge is what it was
  pub flat_itself : (v : Vertex) → is_merge v.op ≡ false → flat_vertex vs v ≡ v
  flat_itself v other = ap (λ ins. vertex_of v.op ins) (flat_other vs v.op v.inputs other)

  -- so merges that differ differ on flat inputs
  pub merges_differ : (before : List Bool) → MergesDiffer vs before → (j k : ℕ) (v w : Vertex) → is_marked before j ≡ true → is_marked before k ≡ true
      → slice_get vs j ≡ Some v → slice_get vs k ≡ Some w → v.op ≡ MergeOp → w.op ≡ MergeOp → flat_inputs vs v.op v.inputs ≡ flat_inputs vs w.op w.inputs → j ≡ k
  merges_differ before differ j k v w at_j at_k there_j there_k v_merge w_merge same = elim differ [
    | inl pairs ↦ pairs_differ vs are pairs j k v w there_j there_k v_merge w_merge same
    | inr lasts ↦
        lasts j k v w at_j at_k there_j there_k v_merge w_merge (sym (last_flat j v there_j v_merge) ∙ (ap last_of same ∙ last_flat k w there_k w_merge))
  ]

  module _ (marks before : List Bool) (within : (k : ℕ) → is_marked marks k ≡ true → is_marked before k ≡ true) (differ : MergesDiffer vs before) where
    by_kind : (j k : ℕ) (v x y : Vertex) (b : Bool) → is_merge v.op ≡ b → is_marked marks j ≡ true → is_marked marks k ≡ true → slice_get vs j ≡ Some x
        → slice_get vs k ≡ Some y → v ≡ flat_vertex vs x → v ≡ flat_vertex vs y → j ≡ k
    by_kind j k v x y true merge at_j at_k there_j there_k from_x from_y =
        let x_op : x.op ≡ MergeOp = merge_is x.op (sym (ap (λ (z : Vertex). is_merge z.op) from_x) ∙ merge) in
        let y_op : y.op ≡ MergeOp = merge_is y.op (sym (ap (λ (z : Vertex). is_merge z.op) from_y) ∙ merge) in
        let inputs : flat_inputs vs x.op x.inputs ≡ flat_inputs vs y.op y.inputs = ap (λ (z : Vertex). z.inputs) (sym from_x ∙ from_y) in
        merges_differ before differ j k x y (within j at_j) (within k at_k) there_j there_k x_op y_op inputs
    by_kind j k v x y false other at_j at_k there_j there_k from_x from_y =
        let x_is : v ≡ x = from_x ∙ flat_itself x (sym (ap (λ (z : Vertex). is_merge z.op) from_x) ∙ other) in
        let y_is : v ≡ y = from_y ∙ flat_itself y (sym (ap (λ (z : Vertex). is_merge z.op) from_y) ∙ other) in
        are.once j k v (there_j ∙ ap Some (sym x_is)) (there_k ∙ ap Some (sym y_is))

    -- where merges differ, no two vertices on flat inputs are equal
    pub flat_distinct : AreDistinct (flat_vertices vs) marks
    flat_distinct j k v at_j at_k there_j there_k =
        let x = flat_back vs j v there_j in
        let y = flat_back vs k v there_k in
        by_kind j k v x.0 y.0 (is_merge v.op) refl at_j at_k x.1 y.1 x.2 y.2

-- nor are those that were put on them
put_distinct : (vs put : List Vertex) (marks : List Bool) → AreOnFlat vs marks put → AreDistinct (flat_vertices vs) marks → AreDistinct put marks
put_distinct vs put marks on distinct j k v at_j at_k there_j there_k = distinct j k v at_j at_k (back j at_j there_j) (back k at_k there_k)
  where
    back : (i : ℕ) → is_marked marks i ≡ true → slice_get put i ≡ Some v → slice_get (flat_vertices vs) i ≡ Some v
    back i marked there =
        let x = there_is vs i (let lt = slice_get_within put i v there in omega (arith, lt, on.long)) in
        let flat : flat_vertex vs x.0 ≡ v = (let f : Some (flat_vertex vs x.0) ≡ Some v = sym (on.there i x.0 marked x.1) ∙ there in cc) in
        flat_there vs i x.0 x.1 ∙ ap Some flat

-- what is marked over flat inputs is marked as it stands
pub marked_before : (vs : List Vertex) (target : ℕ) (marks before : List Bool) → AreReached (flat_vertices vs) target marks → AreReached vs target before → (k : ℕ)
    → is_marked marks k ≡ true → is_marked before k ≡ true
marked_before vs target marks before reached all k marked =
    let path = reached.only k marked in
    let on = flat_reached vs path.0 target k path.1 in
    reached_marked vs target before on.0 target k all all.has_first on.1

pub made_distinct : (vs put : List Vertex) (target : ℕ) (marks before : List Bool) → AreVertices vs → AreFlattened vs target marks put
    → AreReached vs target before → MergesDiffer vs before → AreDistinct put marks
made_distinct vs put target marks before are flattened all differ =
    put_distinct vs put marks flattened.1 (flat_distinct vs are marks before (marked_before vs target marks before flattened.0 all) differ)
