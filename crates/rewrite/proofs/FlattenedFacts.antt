-- A plan that was flattened: which one it is, and that it means what it meant.
use Rattle.std.proofs.Common.{◌≡◌, ◌≢◌, inl, inr, ◌<◌, ◌≤◌, ◌+◌, ℕ, Bool, true, false, zero, suc, List, [], ◌∷◌, ◌++◌, map, length, Some, Err, refl, sym, ap}
use Rattle.std.proofs.Common.{ap₂, ◌∙◌, subst, arith}
use Rattle.std.specs.Prelude.{Contains, slice_get}
use Rattle.std.specs.List.{All}
use Rattle.std.proofs.lemmas.List.Elements.{All-head, Contains-append_left, Contains-append_right}
use Rattle.std.proofs.lemmas.Option.{slice_get_within}
use Rattle.trees.specs.declared.cause.Cause.{Cause}
use Rattle.llb.specs.declared.op.Op.{Op}
use Rattle.llb.specs.declared.op.Op.TheVariants.{Merge as MergeOp}
use Rattle.llb.specs.declared.vertex.Vertex.{Vertex}
use Rattle.llb.specs.Graph.{GraphValue, IsGraph, AreVertices}
use Rattle.plain.specs.Marks.{IsPath}
use Rattle.llb.specs.Reach.{Reaches, HasInput}
use Rattle.llb.proofs.LineFacts.{contains_nil, contains_here, contains_cases}
use Rattle.plans.specs.Plan.{PlanValue, IsPlan, NeedsAll, problem_of, IsValue, vertex_value}
use Rattle.plans.specs.Sources.{SourcesValue, HasSource, HasSources}
use Rattle.plans.specs.Value.{Out, World, value_of}
use Rattle.plans.specs.PrivateValue.{tree_at}
use Rattle.lowering.specs.Meaning.{Trees, value_with}
use Rattle.lowering.specs.Means.{world}
use Rattle.lowering.proofs.ValueFacts.{vertex_is}
use Rattle.reached.proofs.FlatFacts.{flat_there, flat_back, as_many}
use Rattle.reached.proofs.SpellingFacts.{there_is, merge_is, flat_other, spelled_merge, spelled_itself, flat_low, spelled_first, spelled_reached, starts_in, spelled_long}
use Rattle.reached.specs.Reached.{AreOnFlat, AreFlattened, AreReached}
use Rattle.reached.specs.Spelled.{with_first, spelled_out, flat_inputs, flat_vertex, flat_vertices, is_merge}
use Rattle.rewrite.proofs.SpelledValues.{flat_value, failing_is_no_merge}
use Rattle.rewrite.specs.Flat.{Becomes, IsFlattened, MergesAreFlat}
use Rattle.rewrite.specs.PrivateJoined.{HasName, AreJoinable, AreJoined}
use Rattle.rewrite.specs.Pruned.{Names, AreNames, KeepsMeaning}
use Rattle.rewrite.specs.PrivateSpelled.{IsFlatOf, flat_graph}
use Rattle.rewrite.proofs.FlatFacts.{flat_joinable, joined_flat}
use Rattle.rewrite.proofs.MarkedFacts.{marked_within, reached_marked}
use Rattle.rewrite.proofs.ReachFacts.{IsNoMerge, named_becomes, one_renamed, reached_flat}
use Rattle.rewrite.proofs.PrunedFacts.{names_first, names_among, same_name, names_trees, failed_within}

-- ---- which plan it is

-- what was put on flat inputs and joined is made of the graph on its flat inputs
pub put_joined : (vertices put : List Vertex) (places : List (List ℕ)) (marks lent_marks : List Bool) (target : ℕ) (flat : GraphValue) (names : Names)
    → AreFlattened vertices target marks put → lent_marks ≡ marks → AreJoined (record { vertices = put; places = places }) lent_marks (length put) flat names
    → AreJoined (flat_graph (record { vertices = vertices; places = places })) marks (length vertices) flat names
put_joined vertices put places marks lent_marks target flat names flattened is joined =
    let on : AreOnFlat vertices marks put = flattened.1 in
    let lent : AreJoined (record { vertices = put; places = places }) marks (length put) flat names =
    subst (λ ms. AreJoined (record { vertices = put; places = places }) ms (length put) flat names) is joined in
    let all : AreJoined (record { vertices = put; places = places }) marks (length vertices) flat names =
    subst (λ n. AreJoined (record { vertices = put; places = places }) marks n flat names) on.long lent in
    joined_flat (record { vertices = vertices; places = places }) flat marks put (length vertices) names on all

-- the target has a new number
pub target_named_flat : (graph flat : GraphValue) (target : ℕ) (names : Names) → target < length graph.vertices → IsFlatOf graph target flat names
    → (last : ℕ) × (slice_get names target ≡ Some (Some last))
target_named_flat graph flat target names lt is = is.are.named target lt is.reached.has_first

-- the vertices that were joined make a flattened plan
pub joined_flattened : {C : Type 0} (plan new : PlanValue C) (graph flat : GraphValue) (target last : ℕ) (config : C) (sources : SourcesValue)
    (names lent_names : Names) → plan ≡ record { graph = graph; target = target; config = config; sources = sources } → IsFlatOf graph target flat names → lent_names ≡ names
    → slice_get lent_names target ≡ Some (Some last) → new ≡ record { graph = flat; target = last; config = config; sources = sources } → IsFlattened plan new
joined_flattened plan new graph flat target last config sources names lent_names parts made same name is = rw (parts, is) (record {
  names = names;
  long = made.are.long;
  reached = λ k. (
    λ r. (let marked = reached_marked (flat_vertices graph.vertices) target made.marks r.0 target k made.reached made.reached.has_first r.1 in
        made.are.named k
        (let in_marks = marked_within made.marks k marked in
        let all = as_many graph.vertices in
        omega (arith, in_marks, made.reached.long, all)) marked),
    λ n. made.reached.only k (made.are.marked k n.0 n.1),
  );
  onto = λ id lt. made.are.onto id (subst (λ vs. id < length vs) made.vertices lt);
  ordered = made.are.ordered;
  same = λ k id v name there.
      (let s = made.are.same k id (flat_vertex graph.vertices v) name (flat_there graph.vertices k v there) in
      (s.0, ap (λ vs. slice_get vs id) made.vertices ∙ s.1, s.2));
  lines = λ id line lt.
      (let both = made.lines id line lt in (
        λ h. (let k = both.0 h in
            (k.0, record { reached = made.all.only k.0 k.1; vertex = k.2.vertex; there = k.2.there; renamed = k.2.renamed; is = k.2.is; same = k.2.same }, k.3)),
        λ k. both.1 (
          k.0,
          reached_marked graph.vertices target made.before k.1.reached.0 target k.0 made.all made.all.has_first k.1.reached.1,
          record { vertex = k.1.vertex; there = k.1.there; renamed = k.1.renamed; is = k.1.is; same = k.1.same },
          k.2,
        ),
      ));
  last = subst (λ (ns : Names). slice_get ns target ≡ Some (Some last)) same name;
  config = refl;
  sources = refl;
})

-- each vertex that was joined is one of the old, by its operation
pub old_op : (old : GraphValue) (marks : List Bool) (new : GraphValue) (names : Names) (id : ℕ) (u : Vertex)
    → AreJoined (flat_graph old) marks (length old.vertices) new names → slice_get new.vertices id ≡ Some u
    → (k : ℕ) × (v : Vertex) × (slice_get old.vertices k ≡ Some v) × (u.op ≡ v.op)
old_op old marks new names id u are there =
    let k = are.onto id (slice_get_within new.vertices id u there) in
    let k_in : k.0 < length old.vertices = (let l = slice_get_within names k.0 (Some id) k.1 in omega (arith, l, are.long)) in
    let v = there_is old.vertices k.0 k_in in
    let s = are.same k.0 id (flat_vertex old.vertices v.0) k.1 (flat_there old.vertices k.0 v.0 v.1) in
    let one : s.0 ≡ u = (let f : Some s.0 ≡ Some u = sym s.1 ∙ there in cc) in
    (k.0, v.0, v.1, ap (λ (x : Vertex). x.op) (sym one) ∙ s.2.op)

-- so its sources have their trees
pub flat_sources : {C : Type 0} (plan : PlanValue C) (graph flat : GraphValue) (target : ℕ) (config : C) (sources : SourcesValue) (names : Names) → IsPlan plan
    → plan ≡ record { graph = graph; target = target; config = config; sources = sources } → IsFlatOf graph target flat names → HasSources sources flat.vertices
flat_sources plan graph flat target config sources names is parts made id u there =
    let has : HasSources sources graph.vertices = rw parts at is.sources in
    let old = old_op graph made.marks made.joined names id u made.are (ap (λ vs. slice_get vs id) (sym made.vertices) ∙ there) in
    subst (HasSource sources) (sym old.3) (has old.0 old.1 old.2)

module _ {C : Type 0} (old new : PlanValue C) (is : IsFlattened old new) where
  -- a vertex with a new number is one of the old plan
  old_there : (k id : ℕ) → slice_get is.names k ≡ Some (Some id) → (v : Vertex) × (slice_get old.graph.vertices k ≡ Some v)
  old_there k id name = there_is old.graph.vertices k (let l = slice_get_within is.names k (Some id) name in omega (arith, l, is.long))

  -- ---- values

  -- a vertex has the value that it had
  flat_values : (w : World) (n k id : ℕ) → AreVertices old.graph.vertices → AreVertices new.graph.vertices → k < n → slice_get is.names k ≡ Some (Some id)
      → value_of w.out w.sources new.graph.vertices id ≡ value_of w.out w.sources old.graph.vertices k
  flat_values w zero k id olds news low name = absurd (omega (arith, low))
  flat_values w (suc n) k id olds news low name =
      let vs = old.graph.vertices in
      let v = old_there k id name in
      let s = is.same k id v.0 name v.1 in
      let within : k < length vs = slice_get_within vs k v.0 v.1 in
      let flat = flat_inputs vs v.0.op v.0.inputs in
      let before : (j other : ℕ) → j < k → slice_get is.names j ≡ Some (Some other)
      → value_of w.out w.sources new.graph.vertices other ≡ value_of w.out w.sources vs j =
      λ j other lt e. flat_values w n j other olds news (omega (arith, lt, low)) e in
      let trees : map (tree_at w new.graph.vertices) s.0.inputs ≡ map (tree_at w vs) flat =
      names_trees w is.names vs new.graph.vertices k flat s.0.inputs before
      (flat_low vs olds k v.0.op v.0.inputs (omega (arith, within)) (olds.after k v.0 v.1)) s.2.inputs in
      let inside : All (λ i. i < length vs) v.0.inputs = (λ j d lt. (let at = olds.after k v.0 v.1 j d lt in omega (arith, at, within))) in
      vertex_is w new.graph.vertices s.0.op s.0.inputs id news s.1
      ∙ (ap₂ (λ (op : Op) (ts : Trees). value_with w op ts) s.2.op trees
      ∙ (flat_value vs olds w v.0.op v.0.inputs inside
      ∙ sym (vertex_is w vs v.0.op v.0.inputs k olds v.1)))

  flat_stays : (out : Out) (k id : ℕ) → AreVertices old.graph.vertices → AreVertices new.graph.vertices → slice_get is.names k ≡ Some (Some id)
      → vertex_value (problem_of out new) id ≡ vertex_value (problem_of out old) k
  unfolding vertex_value
  flat_stays out k id olds news name =
      ap (λ s. value_of out s new.graph.vertices id) is.sources ∙ flat_values (world out old.sources) (k + 1) k id olds news (omega arith) name

  -- ---- what is reached

  -- a path on flat inputs leads on in the flattened plan
  flat_leads : (path : List ℕ) (from to first last : ℕ) → IsPath (HasInput (flat_vertices old.graph.vertices)) from path to
      → slice_get is.names from ≡ Some (Some first) → slice_get is.names to ≡ Some (Some last) → Reaches new.graph.vertices first last
  flat_leads [] from to first last leads is_first is_last = ([], same_name is.names from first last is_first (ap (slice_get is.names) leads ∙ is_last))
  flat_leads (next ∷ path) from to first last leads is_first is_last =
      let v = flat_back old.graph.vertices from leads.0.v leads.0.there in
      let s = is.same from first v.0 is_first v.1 in
      let ids = flat_inputs old.graph.vertices v.0.op v.0.inputs in
      let contained : Contains ids next = subst (λ (x : Vertex). Contains x.inputs next) v.2 leads.0.among in
      let among = names_among is.names ids s.0.inputs next s.2.inputs contained in
      let rest = flat_leads path next to among.0 last leads.1 among.1 is_last in
      (among.0 ∷ rest.0, (record { v = s.0; there = s.1; among = among.2 }, rest.1))

  -- the target of a flattened plan needs all of its vertices
  pub flat_needs : (out : Out) → NeedsAll (problem_of out new)
  flat_needs out id lt =
      let k = is.onto id lt in
      let path = (is.reached k.0).1 (id, k.1) in
      flat_leads path.0 old.target k.0 new.target id path.1 is.last k.1

  -- ---- merges

  -- the first of flat inputs is no merge
  first_of : (vs : List Vertex) → AreVertices vs → (k : ℕ) (inputs : List ℕ) → k ≤ length vs → All (λ i. i < k) inputs → (first : ℕ) (more : List ℕ) (u : Vertex)
      → with_first (spelled_out vs) inputs ≡ first ∷ more → slice_get vs first ≡ Some u → u.op ≢ MergeOp
  first_of vs are k [] within low first more u starts there = absurd cc
  first_of vs are k (next ∷ rest) within low first more u starts there =
      let less : next < k = All-head (λ i. i < k) next rest low in
      let w = there_is vs next (omega (arith, less, within)) in
      let begun = starts_in (spelled_out vs next) rest first more (spelled_long vs are next w.0 w.1) starts in
      spelled_first vs are next w.0 w.1 first begun.0 u begun.1 there

  pub merges_flat : AreVertices old.graph.vertices → MergesAreFlat new.graph.vertices
  merges_flat olds merge first v u rest at op_is in_is at_first u_op =
      let vs = old.graph.vertices in
      let k = is.onto merge (slice_get_within new.graph.vertices merge v at) in
      let x = old_there k.0 merge k.1 in
      let s = is.same k.0 merge x.0 k.1 x.1 in
      let one : s.0 ≡ v = (let f : Some s.0 ≡ Some v = sym s.1 ∙ at in cc) in
      let x_op : x.0.op ≡ MergeOp = sym s.2.op ∙ (ap (λ (y : Vertex). y.op) one ∙ op_is) in
      let ids = flat_inputs vs x.0.op x.0.inputs in
      let names : AreNames is.names ids (first ∷ rest) = subst (λ ins. AreNames is.names ids ins) (ap (λ (y : Vertex). y.inputs) one ∙ in_is) s.2.inputs in
      let begun = names_first is.names ids first rest names in
      let starts : with_first (spelled_out vs) x.0.inputs ≡ begun.0 ∷ begun.1 = ap (λ (op : Op). flat_inputs vs op x.0.inputs) (sym x_op) ∙ begun.2 in
      let y = old_there begun.0 first begun.3 in
      let t = is.same begun.0 first y.0 begun.3 y.1 in
      let two : t.0 ≡ u = (let f : Some t.0 ≡ Some u = sym t.1 ∙ at_first in cc) in
      let within = slice_get_within vs k.0 x.0 x.1 in
      first_of vs olds k.0 x.0.inputs (omega (arith, within)) (olds.after k.0 x.0 x.1) begun.0 begun.1 y.0 starts y.1
      (sym t.2.op ∙ (ap (λ (z : Vertex). z.op) two ∙ u_op))

-- ---- what it means

-- a vertex with a cause is no merge
no_merge_fails : {C : Type 0} (out : Out) (plan : PlanValue C) (id : ℕ) (cause : Cause) → AreVertices plan.graph.vertices → IsValue (problem_of out plan) id (Err cause)
    → IsNoMerge plan.graph.vertices id
unfolding vertex_value
no_merge_fails out plan id cause are is u there =
    failing_is_no_merge plan.graph.vertices are (world out plan.sources) id u cause there is

-- what became a vertex that fails has its number: it is no merge, so it is reached over flat inputs
becomes_named : {C : Type 0} (old new : PlanValue C) (is : IsFlattened old new) (out : Out) (k id : ℕ) (cause : Cause) → AreVertices old.graph.vertices
    → AreVertices new.graph.vertices → Becomes old new is.names k id → IsValue (problem_of out new) id (Err cause) → slice_get is.names k ≡ Some (Some id)
becomes_named old new is out k id cause olds news one value =
    let plain : IsNoMerge old.graph.vertices k = λ u there merge.
    (let same : u ≡ one.vertex = (let f : Some u ≡ Some one.vertex = sym there ∙ one.there in cc) in
    no_merge_fails out new id cause news value one.renamed one.is (one.same.op ∙ (ap (λ (x : Vertex). x.op) (sym same) ∙ merge))) in
    let name = (is.reached k).0 (reached_flat old.graph.vertices olds one.reached.0 old.target k one.reached.1 plain) in
    let s = is.same k name.0 one.vertex name.1 one.there in
    let equal : s.0 ≡ one.renamed = one_renamed is.names (flat_vertex old.graph.vertices one.vertex) s.0 one.renamed s.2 one.same in
    let number : name.0 ≡ id = news.once name.0 id one.renamed (s.1 ∙ ap Some equal) one.is in
    subst (λ n. slice_get is.names k ≡ Some (Some n)) number name.1

-- so a flattened plan keeps what the plan means
pub flat_keeps : {C : Type 0} (old new : PlanValue C) → IsFlattened old new → IsGraph old.graph → IsGraph new.graph → KeepsMeaning old new
flat_keeps old new is olds news = record {
  config = is.config;
  sources = is.sources;
  last = λ out. flat_stays old new is out old.target new.target olds.vertices news.vertices is.last;
  failures = λ out line cause. (
    (λ f.
        let within = failed_within out new f.id cause f.value in
        let k = (is.lines f.id line within).0 f.behind in
        let name = becomes_named old new is out k.0 f.id cause olds.vertices news.vertices k.1 f.value in
        record {
          id = k.0;
          reached = k.1.reached;
          behind = k.2;
          value = sym (flat_stays old new is out k.0 f.id olds.vertices news.vertices name) ∙ f.value;
        }),
    (λ f.
        let plain = no_merge_fails out old f.id cause olds.vertices f.value in
        let name = (is.reached f.id).0 (reached_flat old.graph.vertices olds.vertices f.reached.0 old.target f.id f.reached.1 plain) in
        let value : IsValue (problem_of out new) name.0 (Err cause) = flat_stays old new is out f.id name.0 olds.vertices news.vertices name.1 ∙ f.value in
        record {
          id = name.0;
          reached = flat_needs old new is out name.0 (failed_within out new name.0 cause value);
          behind = (is.lines name.0 line (failed_within out new name.0 cause value)).1 (f.id, named_becomes old new is f.id name.0 name.1, f.behind);
          value = value;
        }),
  );
}

pub made_flat_keeps : {C : Type 0} (plan new : PlanValue C) (flat : GraphValue) → IsPlan plan → IsGraph flat → new.graph ≡ flat → IsFlattened plan new
    → KeepsMeaning plan new
made_flat_keeps plan new flat is graph same flattened = flat_keeps plan new flattened is.graph (subst IsGraph (sym same) graph)

pub made_merges_flat : {C : Type 0} (plan new : PlanValue C) → IsPlan plan → IsFlattened plan new → MergesAreFlat new.graph.vertices
made_merges_flat plan new is flattened = merges_flat plan new flattened is.graph.vertices

-- ---- between the calls

-- what was put on flat inputs can make a graph
pub made_fit : (target : ℕ) (vertices put : List Vertex) (places : List (List ℕ)) (marks lent_marks : List Bool) → IsGraph (record { vertices = vertices; places = places })
    → AreFlattened vertices target marks put → lent_marks ≡ marks → AreJoinable (record { vertices = put; places = places }) lent_marks
made_fit target vertices put places marks lent_marks is flattened lent =
    subst (λ ms. AreJoinable (record { vertices = put; places = places }) ms) (sym lent)
    (flat_joinable (record { vertices = vertices; places = places }) target marks put is flattened.0 flattened.1)

-- the target is among the vertices
pub target_within : {C : Type 0} (plan : PlanValue C) (graph : GraphValue) (target : ℕ) (config : C) (sources : SourcesValue)
    → plan ≡ record { graph = graph; target = target; config = config; sources = sources } → IsPlan plan → target < length graph.vertices
target_within plan graph target config sources parts is = rw parts at is.target

-- the target's new number, in names that were lent
pub lent_named : (graph flat : GraphValue) (target : ℕ) (names lent : Names) → target < length graph.vertices → IsFlatOf graph target flat names → lent ≡ names → HasName lent target
lent_named graph flat target names lent lt made same =
    subst (λ (ns : Names). HasName ns target) (sym same) (target_named_flat graph flat target names lt made)
