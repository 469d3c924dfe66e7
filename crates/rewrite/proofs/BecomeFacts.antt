-- Which vertices become one of a flattened graph: those that have its number, and merges that were replaced and are equal to it.
use Rattle.std.proofs.Common.{◌≡◌, ◌≢◌, ◌⊎◌, ◌↔◌, inl, inr, ◌<◌, ◌≤◌, ℕ, Bool, true, false, List, [], ◌∷◌, length, Option, Some, None, refl, sym, ap, ◌∙◌, subst, arith}
use Rattle.std.specs.Prelude.{Contains, slice_get, slice_index_or, if◌then◌else◌, ◌&&◌}
use Rattle.std.specs.List.{All}
use Rattle.std.proofs.lemmas.Bool.{cases_lt, true≢false}
use Rattle.std.proofs.lemmas.List.Elements.{All-weaker, Contains-get_or}
use Rattle.std.proofs.lemmas.Option.{slice_get_within}
use Rattle.plain.specs.Marks.{is_marked}
use Rattle.llb.specs.declared.op.Op.{Op}
use Rattle.llb.specs.declared.op.Op.TheVariants.{Merge as MergeOp}
use Rattle.llb.specs.declared.vertex.Vertex.{Vertex}
use Rattle.llb.specs.Graph.{GraphValue, IsGraph, AreVertices}
use Rattle.llb.specs.Places.{AreLines}
use Rattle.llb.specs.Reach.{Reaches}
use Rattle.lowering.specs.Means.{lines_at}
use Rattle.reached.proofs.FlatFacts.{flat_there, flat_after, as_many}
use Rattle.reached.proofs.SpellingFacts.{there_is, merge_is, no_merge, flat_low, spelled_merge}
use Rattle.reached.specs.Reached.{AreReached}
use Rattle.reached.specs.Spelled.{flat_inputs, flat_vertex, flat_vertices, is_merge, spelled_out}
use Rattle.rewrite.specs.PrivateFlat.{MergesDiffer}
use Rattle.rewrite.specs.PrivateJoined.{HasName, AreJoined}
use Rattle.rewrite.specs.PrivateSpelled.{AreSpelled, HasMerge, HasSpelled, IsFlatOf, IsFlatOne, TakesLines, flat_graph, spelled_vertex}
use Rattle.rewrite.specs.declared.spelled.Spelled.{Spelled}
use Rattle.rewrite.specs.Pruned.{Names, AreNames, IsRenamed}
use Rattle.rewrite.proofs.FreshFacts.{flat_distinct, marked_before, merges_differ, one_below, same_olds}
use Rattle.rewrite.proofs.JoinFacts.{lines_at_are}
use Rattle.rewrite.proofs.MarkedFacts.{marked_within, reached_marked}
use Rattle.rewrite.proofs.ReachFacts.{IsNoMerge, all_spelled_reached, one_renamed, reached_flat}

-- what stands at a number is one
one_there : (vs : List Vertex) (k : ℕ) (v u : Vertex) → slice_get vs k ≡ Some v → slice_get vs k ≡ Some u → v ≡ u
one_there vs k v u a b = (let f : Some v ≡ Some u = sym a ∙ b in cc)

-- what is spelled out is a merge that is marked
spelled_cases : (mark merge : Bool) (some one : Spelled) → (if mark && merge then Some some else None) ≡ Some one → (mark ≡ true) × (merge ≡ true) × (one ≡ some)
spelled_cases true true some one made = (refl, refl, (let f : Some some ≡ Some one = made in cc))
spelled_cases true false some one made = absurd (let f : None ≡ Some one = made in cc)
spelled_cases false merge some one made = absurd (let f : None ≡ Some one = made in cc)

spelled_both : (mark merge : Bool) (some : Spelled) → mark ≡ true → merge ≡ true → (if mark && merge then Some some else None) ≡ Some some
spelled_both true true some marked is = refl
spelled_both true false some marked is = absurd (true≢false (sym is))
spelled_both false merge some marked is = absurd (true≢false (sym marked))

module _ (graph flat : GraphValue) (target : ℕ) (marks before : List Bool) (names : Names) (are : AreVertices graph.vertices) (flats : AreVertices flat.vertices)
    (reached : AreReached (flat_vertices graph.vertices) target marks) (all : AreReached graph.vertices target before)
    (joined : AreJoined (flat_graph graph) marks (length graph.vertices) flat names) where
  -- a marked vertex that is one on its new inputs has its number
  marked_named : (k id : ℕ) → is_marked marks k ≡ true → IsFlatOne graph flat names k id → slice_get names k ≡ Some (Some id)
  marked_named k id marked one =
      let lt = slice_get_within graph.vertices k one.vertex one.there in
      let name = joined.named k lt marked in
      let s = joined.same k name.0 (flat_vertex graph.vertices one.vertex) name.1 (flat_there graph.vertices k one.vertex one.there) in
      let same : s.0 ≡ one.renamed = one_renamed names (flat_vertex graph.vertices one.vertex) s.0 one.renamed s.2 one.same in
      let number : name.0 ≡ id = flats.once name.0 id one.renamed (s.1 ∙ ap Some same) one.is in
      subst (λ n. slice_get names k ≡ Some (Some n)) number name.1

  -- what has a number was reached, and is one on its new inputs
  pub named_one : (k id : ℕ) → slice_get names k ≡ Some (Some id) → (is_marked before k ≡ true) × IsFlatOne graph flat names k id
  named_one k id name =
      let lt = slice_get_within names k (Some id) name in
      let v = there_is graph.vertices k (omega (arith, lt, joined.long)) in
      let s = joined.same k id (flat_vertex graph.vertices v.0) name (flat_there graph.vertices k v.0 v.1) in (
        marked_before graph.vertices target marks before reached all k (joined.marked k id name),
        record { vertex = v.0; there = v.1; renamed = s.0; is = s.1; same = s.2 },
      )

  -- a vertex that was reached and is no merge is reached over flat inputs
  other_marked : (k : ℕ) (v : Vertex) → is_marked before k ≡ true → slice_get graph.vertices k ≡ Some v → is_merge v.op ≡ false → is_marked marks k ≡ true
  other_marked k v marked there other =
      let plain : IsNoMerge graph.vertices k = λ u at. no_merge u.op (ap (λ (x : Vertex). is_merge x.op) (one_there graph.vertices k u v at there) ∙ other) in
      let path = all.only k marked in
      let on = reached_flat graph.vertices are path.0 target k path.1 plain in
      reached_marked (flat_vertices graph.vertices) target marks on.0 target k reached reached.has_first on.1

  -- ---- where merges differ

  low_inputs : (k : ℕ) (v : Vertex) → slice_get graph.vertices k ≡ Some v → All (λ i. i < length graph.vertices) (flat_inputs graph.vertices v.op v.inputs)
  low_inputs k v there =
      let lt = slice_get_within graph.vertices k v there in
      All-weaker (λ i. i < k) (λ i. i < length graph.vertices) (λ i low. omega (arith, low, lt)) (flat_inputs graph.vertices v.op v.inputs)
      (flat_low graph.vertices are k v.op v.inputs (omega (arith, lt)) (are.after k v there))

  module _ (differ : MergesDiffer graph.vertices before) where
    -- a merge that was reached and is one on its new inputs has its number
    merge_named : (k id : ℕ) → is_marked before k ≡ true → (one : IsFlatOne graph flat names k id) → one.vertex.op ≡ MergeOp → slice_get names k ≡ Some (Some id)
    merge_named k id marked one merge =
        let vs = graph.vertices in
        let from = joined.onto id (slice_get_within flat.vertices id one.renamed one.is) in
        let j = from.0 in
        let other = named_one j id from.1 in
        let w = other.1 in
        let same : w.renamed ≡ one.renamed = one_there flat.vertices id w.renamed one.renamed w.is one.is in
        let w_op : w.vertex.op ≡ MergeOp = sym w.same.op ∙ (ap (λ (x : Vertex). x.op) same ∙ (one.same.op ∙ merge)) in
        let w_names : AreNames names (flat_inputs vs w.vertex.op w.vertex.inputs) one.renamed.inputs =
        subst (λ (x : Vertex). AreNames names (flat_inputs vs w.vertex.op w.vertex.inputs) x.inputs) same w.same.inputs in
        let number : (a b c : ℕ) → a < length vs → b < length vs → slice_get names a ≡ Some (Some c) → slice_get names b ≡ Some (Some c) → a ≡ b =
        one_below (flat_graph graph) flat marks names (length vs) (let many = as_many vs in omega (arith, many))
        (λ n v n_marked there. flat_after vs are n v there)
        (flat_distinct vs are marks before (marked_before vs target marks before reached all) differ) joined (length vs) in
        let inputs : flat_inputs vs one.vertex.op one.vertex.inputs ≡ flat_inputs vs w.vertex.op w.vertex.inputs =
        same_olds names (length vs) (flat_inputs vs one.vertex.op one.vertex.inputs) (flat_inputs vs w.vertex.op w.vertex.inputs) one.renamed.inputs number
        (low_inputs k one.vertex one.there) (low_inputs j w.vertex w.there) one.same.inputs w_names in
        let equal : k ≡ j = merges_differ vs are before differ k j one.vertex w.vertex marked other.0 one.there w.there merge w_op inputs in
        subst (λ n. slice_get names n ≡ Some (Some id)) (sym equal) from.1

    all_named : (k id : ℕ) → is_marked before k ≡ true → (one : IsFlatOne graph flat names k id) → (b : Bool) → is_merge one.vertex.op ≡ b → slice_get names k ≡ Some (Some id)
    all_named k id marked one true merge = merge_named k id marked one (merge_is one.vertex.op merge)
    all_named k id marked one false other = marked_named k id (other_marked k one.vertex marked one.there other) one

  -- ---- the lines

  module _ (taken : GraphValue) (spelled : List (Option Spelled)) (takes : TakesLines flat taken names spelled (length spelled)) where
    one_in : (k id : ℕ) → IsFlatOne graph flat names k id → IsFlatOne graph taken names k id
    one_in k id one =
        record { vertex = one.vertex; there = one.there; renamed = one.renamed; is = ap (λ vs. slice_get vs id) takes.vertices ∙ one.is; same = one.same }

    one_of : (k id : ℕ) → IsFlatOne graph taken names k id → IsFlatOne graph flat names k id
    one_of k id one =
        record { vertex = one.vertex; there = one.there; renamed = one.renamed; is = ap (λ vs. slice_get vs id) (sym takes.vertices) ∙ one.is; same = one.same }

    -- lines of what has a number
    own_line : (k id line : ℕ) → slice_get names k ≡ Some (Some id) → Contains (lines_at graph k) line → Contains (lines_at taken id) line
    own_line k id line name behind = (takes.lines id line).1 (inl (joined.lines k id line name behind))

    from_own : (id line : ℕ) → id < length taken.vertices → Contains (lines_at flat id) line
        → (k : ℕ) × (is_marked before k ≡ true) × IsFlatOne graph taken names k id × Contains (lines_at graph k) line
    from_own id line lt behind =
        let k = joined.only id line (subst (λ vs. id < length vs) takes.vertices lt) behind in
        let one = named_one k.0 id k.1 in
        (k.0, one.0, one_in k.0 id one.1, k.2)

    -- where merges differ none was spelled out
    pub differ_lines : MergesDiffer graph.vertices before → spelled ≡ [] → (id line : ℕ) → id < length taken.vertices
        → Contains (lines_at taken id) line ↔ ((k : ℕ) × (is_marked before k ≡ true) × IsFlatOne graph taken names k id × Contains (lines_at graph k) line)
    differ_lines differ none id line lt = (
      λ h. elim ((takes.lines id line).0 h) [
        | inl own ↦ from_own id line lt own
        | inr of ↦ absurd (let low = of.low in let few = ap length none in omega (arith, low, few))
      ],
      λ k.
          (let one = one_of k.0 id k.2 in
          own_line k.0 id line (all_named differ k.0 id k.1 one (is_merge one.vertex.op) refl) k.3),
    )

    -- else each that was reached was
    spelled_from : AreSpelled graph before (length graph.vertices) spelled → (id line : ℕ) → HasSpelled flat.vertices names spelled (length spelled) id line
        → (k : ℕ) × (is_marked before k ≡ true) × IsFlatOne graph taken names k id × Contains (lines_at graph k) line
    spelled_from are_spelled id line of =
        let vs = graph.vertices in
        let v = there_is vs of.k (let low = of.low in omega (arith, low, are_spelled.long)) in
        let is = are_spelled.each of.k v.0 (slice_get_within vs of.k v.0 v.1) v.1 in
        let some : Spelled = record { inputs = flat_inputs vs v.0.op v.0.inputs; lines = lines_at graph of.k } in
        let made : spelled_vertex vs v.0 (lines_at graph of.k) (is_marked before of.k) ≡ Some of.one =
        (let f : Some (spelled_vertex vs v.0 (lines_at graph of.k) (is_marked before of.k)) ≡ Some (Some of.one) = sym is ∙ of.there in cc) in
        let both = spelled_cases (is_marked before of.k) (is_merge v.0.op) some of.one made in
        let op : v.0.op ≡ MergeOp = merge_is v.0.op both.1 in
        let same : IsRenamed names (flat_vertex vs v.0) of.equal.0 = record {
          op = of.equal.2.op ∙ sym op;
          inputs = subst (λ (s : Spelled). AreNames names s.inputs of.equal.0.inputs) both.2 of.equal.2.inputs;
        } in (
          of.k,
          both.0,
          one_in of.k id (record { vertex = v.0; there = v.1; renamed = of.equal.0; is = of.equal.1; same = same }),
          subst (λ (s : Spelled). Contains s.lines line) both.2 of.behind,
        )

    spelled_there : AreSpelled graph before (length graph.vertices) spelled → (k id line : ℕ) → is_marked before k ≡ true → (one : IsFlatOne graph flat names k id) → one.vertex.op ≡ MergeOp
        → Contains (lines_at graph k) line → HasSpelled flat.vertices names spelled (length spelled) id line
    spelled_there are_spelled k id line marked one merge behind =
        let vs = graph.vertices in
        let lt = slice_get_within vs k one.vertex one.there in
        let is_one : is_merge one.vertex.op ≡ true = ap is_merge merge in
        let some : Spelled = record { inputs = flat_inputs vs one.vertex.op one.vertex.inputs; lines = lines_at graph k } in
        let made : spelled_vertex vs one.vertex (lines_at graph k) (is_marked before k) ≡ Some some = spelled_both (is_marked before k) (is_merge one.vertex.op) some marked is_one in
        record {
          k = k;
          low = omega (arith, lt, are_spelled.long);
          one = some;
          there = are_spelled.each k one.vertex lt one.there ∙ ap Some made;
          equal = (one.renamed, one.is, record { op = one.same.op ∙ merge; inputs = one.same.inputs });
          behind = behind;
        }

    to_line : AreSpelled graph before (length graph.vertices) spelled → (k id line : ℕ) → is_marked before k ≡ true → (one : IsFlatOne graph flat names k id) → (b : Bool)
        → is_merge one.vertex.op ≡ b → Contains (lines_at graph k) line → Contains (lines_at taken id) line
    to_line are_spelled k id line marked one true merge behind =
        (takes.lines id line).1 (inr (spelled_there are_spelled k id line marked one (merge_is one.vertex.op merge) behind))
    to_line are_spelled k id line marked one false other behind =
        own_line k id line (marked_named k id (other_marked k one.vertex marked one.there other) one) behind

    pub spelled_lines : AreSpelled graph before (length graph.vertices) spelled → (id line : ℕ) → id < length taken.vertices
        → Contains (lines_at taken id) line ↔ ((k : ℕ) × (is_marked before k ≡ true) × IsFlatOne graph taken names k id × Contains (lines_at graph k) line)
    spelled_lines are_spelled id line lt = (
      λ h. elim ((takes.lines id line).0 h) [ inl own ↦ from_own id line lt own | inr of ↦ spelled_from are_spelled id line of ],
      λ k. (let one = one_of k.0 id k.2 in to_line are_spelled k.0 id line k.1 one (is_merge one.vertex.op) refl k.3),
    )

    -- so it is the graph that is flat
    pub is_flat_of : (differ : Bool) → (differ ≡ true → MergesDiffer graph.vertices before) → (differ ≡ false → AreSpelled graph before (length graph.vertices) spelled)
        → (differ ≡ true → spelled ≡ []) → IsFlatOf graph target taken names
    is_flat_of true are_differ are_spelled none = record {
      marks = marks;
      reached = reached;
      before = before;
      all = all;
      joined = flat;
      are = joined;
      vertices = takes.vertices;
      lines = differ_lines (are_differ refl) (none refl);
    }
    is_flat_of false are_differ are_spelled none = record {
      marks = marks;
      reached = reached;
      before = before;
      all = all;
      joined = flat;
      are = joined;
      vertices = takes.vertices;
      lines = spelled_lines (are_spelled refl);
    }

-- ---- what is spelled out has new numbers, and lines

module _ (graph flat : GraphValue) (target : ℕ) (marks before : List Bool) (names : Names) (is : IsGraph graph)
    (reached : AreReached (flat_vertices graph.vertices) target marks) (all : AreReached graph.vertices target before)
    (joined : AreJoined (flat_graph graph) marks (length graph.vertices) flat names) (spelled : List (Option Spelled))
    (are_spelled : AreSpelled graph before (length graph.vertices) spelled) where
  spelled_as : (k : ℕ) (one : Spelled) → slice_get spelled k ≡ Some (Some one)
      → (v : Vertex) × (slice_get graph.vertices k ≡ Some v) × (v.op ≡ MergeOp) × (is_marked before k ≡ true)
      × (one ≡ record { inputs = flat_inputs graph.vertices v.op v.inputs; lines = lines_at graph k })
  spelled_as k one there =
      let v = there_is graph.vertices k (let lt = slice_get_within spelled k (Some one) there in omega (arith, lt, are_spelled.long)) in
      let is = are_spelled.each k v.0 (slice_get_within graph.vertices k v.0 v.1) v.1 in
      let some : Spelled = record { inputs = flat_inputs graph.vertices v.0.op v.0.inputs; lines = lines_at graph k } in
      let made : spelled_vertex graph.vertices v.0 (lines_at graph k) (is_marked before k) ≡ Some one =
      (let f : Some (spelled_vertex graph.vertices v.0 (lines_at graph k) (is_marked before k)) ≡ Some (Some one) = sym is ∙ there in cc) in
      let both = spelled_cases (is_marked before k) (is_merge v.0.op) some one made in
      (v.0, v.1, merge_is v.0.op both.1, both.0, both.2)

  -- its inputs have new numbers
  pub spelled_named : target < length graph.vertices → (k : ℕ) (one : Spelled) → slice_get spelled k ≡ Some (Some one) → All (HasName names) one.inputs
  spelled_named within k one there =
      let of = spelled_as k one there in
      let vs = graph.vertices in
      let ids : List ℕ = flat_inputs vs of.0.op of.0.inputs in
      let flat : ids ≡ spelled_out vs k = ap (λ (op : Op). flat_inputs vs op of.0.inputs) of.2 ∙ sym (spelled_merge vs is.vertices k of.0 of.1 of.2) in
      let each : (i : ℕ) → Contains ids i → HasName names i =
      λ i among.
      (let on = all_spelled_reached vs is.vertices target within k (all.only k of.3) i (subst (λ ins. Contains ins i) flat among) in
      let marked = reached_marked (flat_vertices vs) target marks on.0 target i reached reached.has_first on.1 in
      joined.named i (let lt = marked_within marks i marked in let many = as_many vs in omega (arith, lt, many, reached.long)) marked) in
      subst (λ (s : Spelled). All (HasName names) s.inputs) (sym of.4) (λ i d lt. each (slice_index_or ids i d) (Contains-get_or ids i d lt))

  pub spelled_lined : (k : ℕ) (one : Spelled) → slice_get spelled k ≡ Some (Some one) → AreLines one.lines
  spelled_lined k one there =
      let of = spelled_as k one there in
      subst (λ (s : Spelled). AreLines s.lines) (sym of.4) (lines_at_are graph k is.places)
