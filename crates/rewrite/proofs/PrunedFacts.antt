-- A plan of the vertices that its target reaches.
use Rattle.std.proofs.Common.{◌≡◌, inl, inr, ◌<◌, ◌+◌, ℕ, zero, suc, Bool, true, false, List, [], ◌∷◌, map, length, Option, Some, Err, refl, sym, ap}
use Rattle.std.proofs.Common.{ap₂, ◌∙◌, subst, arith}
use Rattle.std.specs.Prelude.{Contains, slice_get, slice_index_or}
use Rattle.std.specs.List.{All}
use Rattle.std.proofs.lemmas.Bool.{cases_lt, true≢false}
use Rattle.std.proofs.lemmas.List.{get_or_past}
use Rattle.std.proofs.lemmas.List.Elements.{All-head, All-tail}
use Rattle.std.proofs.lemmas.Option.{slice_get_within, slice_get-get_or}
use Rattle.trees.specs.TreeMap.{TreeMap}
use Rattle.trees.specs.declared.cause.Cause.{Cause}
use Rattle.llb.specs.declared.op.Op.{Op}
use Rattle.llb.specs.declared.vertex.Vertex.{Vertex}
use Rattle.llb.specs.Graph.{GraphValue, IsGraph, AreVertices}
use Rattle.llb.specs.Reach.{HasInput, Reaches}
use Rattle.llb.proofs.LineFacts.{contains_nil, contains_here, contains_there, contains_cases}
use Rattle.plans.specs.Plan.{PlanValue, IsPlan, NeedsAll, problem_of, IsValue, vertex_value}
use Rattle.plans.specs.Sources.{SourcesValue, HasSource, HasSources}
use Rattle.plans.specs.Value.{Out, World, tree_of, value_of}
use Rattle.plans.specs.PrivateValue.{tree_at}
use Rattle.plans.proofs.ValueLaws.{value_within}
use Rattle.lowering.specs.Meaning.{Trees, value_with}
use Rattle.lowering.specs.Means.{world}
use Rattle.lowering.proofs.ValueFacts.{vertex_is}
use Rattle.rewrite.specs.PrivateJoined.{HasName, AreJoinable, AreJoined}
use Rattle.plain.specs.Marks.{is_marked, IsPath}
use Rattle.reached.proofs.SpellingFacts.{there_is}
use Rattle.reached.specs.Reached.{AreReached}
use Rattle.rewrite.specs.Pruned.{Names, AreNames, IsRenamed, IsPruned, KeepsMeaning}
use Rattle.rewrite.proofs.MarkedFacts.{reached_marked, marked_within}
use Rattle.rewrite.proofs.OnceFacts.{graph_joinable, in_order, own_lines}

-- the vertices that were kept make a pruned plan
pub kept_pruned : {C : Type 0} (plan new : PlanValue C) (graph kept : GraphValue) (target last : ℕ) (config : C) (sources : SourcesValue)
    (marks : List Bool) (names : Names)
    → IsGraph graph → IsGraph kept → plan ≡ record { graph = graph; target = target; config = config; sources = sources }
    → AreReached graph.vertices target marks → AreJoined graph marks (length graph.vertices) kept names
    → slice_get names target ≡ Some (Some last) → new ≡ record { graph = kept; target = last; config = config; sources = sources } → IsPruned plan new
kept_pruned plan new graph kept target last config sources marks names olds news parts reached are name is = rw (parts, is) (record {
  names = names;
  long = are.long;
  reached = λ k. (
    λ r. (let marked = reached_marked graph.vertices target marks r.0 target k reached reached.has_first r.1 in
        are.named k (let in_marks = marked_within marks k marked in omega (arith, in_marks, reached.long)) marked),
    λ n. reached.only k (are.marked k n.0 n.1),
  );
  onto = are.onto;
  ordered = in_order graph kept marks names olds are;
  same = are.same;
  lines = λ k id e. own_lines graph kept marks names olds are k id news e;
  last = name;
  config = refl;
  sources = refl;
})

-- the target has a new number
pub target_named : {C : Type 0} (plan : PlanValue C) (graph kept : GraphValue) (target : ℕ) (config : C) (sources : SourcesValue) (marks : List Bool)
    (names : Names) → IsPlan plan
    → plan ≡ record { graph = graph; target = target; config = config; sources = sources } → AreReached graph.vertices target marks
    → AreJoined graph marks (length graph.vertices) kept names → (last : ℕ) × (slice_get names target ≡ Some (Some last))
target_named plan graph kept target config sources marks names is parts reached are =
    let lt : target < length graph.vertices = rw parts at is.target in
    are.named target lt reached.has_first

-- each vertex that was kept is one of the old
old_of : (old : GraphValue) (marks : List Bool) (new : GraphValue) (names : Names) (id : ℕ) (u : Vertex)
    → AreJoined old marks (length old.vertices) new names → slice_get new.vertices id ≡ Some u
    → (k : ℕ) × (v : Vertex) × (slice_get old.vertices k ≡ Some v) × IsRenamed names v u
old_of old marks new names id u are there =
    let k = are.onto id (slice_get_within new.vertices id u there) in
    let k_in : k.0 < length old.vertices = (let l = slice_get_within names k.0 (Some id) k.1 in omega (arith, l, are.long)) in
    let v : Vertex = slice_index_or old.vertices k.0 u in
    let v_there : slice_get old.vertices k.0 ≡ Some v = slice_get-get_or old.vertices k.0 u k_in in
    let s = are.same k.0 id v k.1 v_there in
    let one : s.0 ≡ u = (let f : Some s.0 ≡ Some u = sym s.1 ∙ there in cc) in
    (k.0, v, v_there, subst (IsRenamed names v) one s.2)

-- so its sources have their trees
pub kept_sources : {C : Type 0} (plan : PlanValue C) (graph kept : GraphValue) (target : ℕ) (config : C) (sources : SourcesValue) (marks : List Bool)
    (names : Names) → IsPlan plan
    → plan ≡ record { graph = graph; target = target; config = config; sources = sources } → AreJoined graph marks (length graph.vertices) kept names
    → HasSources sources kept.vertices
kept_sources plan graph kept target config sources marks names is parts are id u there =
    let has : HasSources sources graph.vertices = rw parts at is.sources in
    let old = old_of graph marks kept names id u are there in
    subst (HasSource sources) (sym old.3.op) (has old.0 old.1 old.2)

pub names_among : (names : Names) (olds news : List ℕ) (old : ℕ) → AreNames names olds news → Contains olds old
    → (new : ℕ) × (slice_get names old ≡ Some (Some new)) × Contains news new
names_among names [] [] old are h = absurd (contains_nil old h)
names_among names [] (n ∷ ns) old are h = absurd are
names_among names (o ∷ os) [] old are h = absurd are
names_among names (o ∷ os) (n ∷ ns) old are h = elim (contains_cases o old os h) [
  | inl same ↦ (n, ap (slice_get names) same ∙ are.0, contains_here n ns)
  | inr more ↦ (let rest = names_among names os ns old are.1 more in (rest.0, rest.1, contains_there n rest.0 ns rest.2))
]

-- the first of inputs on their new numbers
pub names_first : (names : Names) (olds : List ℕ) (first : ℕ) (rest : List ℕ) → AreNames names olds (first ∷ rest)
    → (old_first : ℕ) × (old_rest : List ℕ) × (olds ≡ old_first ∷ old_rest) × (slice_get names old_first ≡ Some (Some first))
names_first names [] first rest are = absurd are
names_first names (o ∷ os) first rest are = (o, os, refl, are.0)

pub same_name : (names : Names) (k a b : ℕ) → slice_get names k ≡ Some (Some a) → slice_get names k ≡ Some (Some b) → a ≡ b
same_name names k a b first second = (let f : Some (Some a) ≡ Some (Some b) = sym first ∙ second in cc)

-- a path leads on in the pruned plan
leads_on : {C : Type 0} (old new : PlanValue C) (is : IsPruned old new) (path : List ℕ) (from to first last : ℕ) → IsPath (HasInput old.graph.vertices) from path to
    → slice_get is.names from ≡ Some (Some first) → slice_get is.names to ≡ Some (Some last) → Reaches new.graph.vertices first last
leads_on old new is [] from to first last leads is_first is_last = ([], same_name is.names from first last is_first (ap (slice_get is.names) leads ∙ is_last))
leads_on old new is (next ∷ path) from to first last leads is_first is_last =
    let s = is.same from first leads.0.v is_first leads.0.there in
    let among = names_among is.names leads.0.v.inputs s.0.inputs next s.2.inputs leads.0.among in
    let rest = leads_on old new is path next to among.0 last leads.1 among.1 is_last in
    (among.0 ∷ rest.0, (record { v = s.0; there = s.1; among = among.2 }, rest.1))

-- the target of a pruned plan needs all of its vertices
pub pruned_needs : {C : Type 0} (old new : PlanValue C) → IsPruned old new → (out : Out) → NeedsAll (problem_of out new)
pruned_needs old new is out id lt =
    let k = is.onto id lt in
    let path = (is.reached k.0).1 (id, k.1) in
    leads_on old new is path.0 old.target k.0 new.target id path.1 is.last k.1

-- the trees of inputs on their new numbers
pub names_trees : (w : World) (names : Names) (old new : List Vertex) (n : ℕ) (olds news : List ℕ)
    → ((k id : ℕ) → k < n → slice_get names k ≡ Some (Some id) → value_of w.out w.sources new id ≡ value_of w.out w.sources old k)
    → All (λ k. k < n) olds → AreNames names olds news → map (tree_at w new) news ≡ map (tree_at w old) olds
names_trees w names old new n [] [] same low are = refl
names_trees w names old new n [] (i ∷ is) same low are = absurd are
names_trees w names old new n (o ∷ os) [] same low are = absurd are
names_trees w names old new n (o ∷ os) (i ∷ is) same low are =
    ap₂ (λ (t : Option TreeMap) (ts : Trees). t ∷ ts) (ap tree_of (same o i (All-head (λ k. k < n) o os low) are.0))
    (names_trees w names old new n os is same (All-tail (λ k. k < n) o os low) are.1)

-- a vertex with a new number is one of the old plan
old_there : {C : Type 0} (old new : PlanValue C) (is : IsPruned old new) (k id : ℕ) → slice_get is.names k ≡ Some (Some id)
    → (v : Vertex) × (slice_get old.graph.vertices k ≡ Some v)
old_there old new is k id name = there_is old.graph.vertices k (let l = slice_get_within is.names k (Some id) name in omega (arith, l, is.long))

-- a vertex has the value that it had
same_values : {C : Type 0} (old new : PlanValue C) (is : IsPruned old new) (w : World) (n k id : ℕ) → AreVertices old.graph.vertices
    → AreVertices new.graph.vertices → k < n → slice_get is.names k ≡ Some (Some id)
    → value_of w.out w.sources new.graph.vertices id ≡ value_of w.out w.sources old.graph.vertices k
same_values old new is w zero k id olds news low name = absurd (omega (arith, low))
same_values old new is w (suc n) k id olds news low name =
    let v = old_there old new is k id name in
    let s = is.same k id v.0 name v.1 in
    let before : (j other : ℕ) → j < k → slice_get is.names j ≡ Some (Some other)
    → value_of w.out w.sources new.graph.vertices other ≡ value_of w.out w.sources old.graph.vertices j =
    λ j other lt e. same_values old new is w n j other olds news (omega (arith, lt, low)) e in
    let trees : map (tree_at w new.graph.vertices) s.0.inputs ≡ map (tree_at w old.graph.vertices) v.0.inputs =
    names_trees w is.names old.graph.vertices new.graph.vertices k v.0.inputs s.0.inputs before (olds.after k v.0 v.1) s.2.inputs in
    vertex_is w new.graph.vertices s.0.op s.0.inputs id news s.1
    ∙ (ap₂ (λ (op : Op) (ts : Trees). value_with w op ts) s.2.op trees
    ∙ sym (vertex_is w old.graph.vertices v.0.op v.0.inputs k olds v.1))

pub value_stays : {C : Type 0} (old new : PlanValue C) (is : IsPruned old new) (out : Out) (k id : ℕ) → AreVertices old.graph.vertices
    → AreVertices new.graph.vertices → slice_get is.names k ≡ Some (Some id)
    → vertex_value (problem_of out new) id ≡ vertex_value (problem_of out old) k
unfolding vertex_value
value_stays old new is out k id olds news name =
    ap (λ s. value_of out s new.graph.vertices id) is.sources ∙ same_values old new is (world out old.sources) (k + 1) k id olds news (omega arith) name

pub failed_within : {C : Type 0} (out : Out) (plan : PlanValue C) (id : ℕ) (cause : Cause) → IsValue (problem_of out plan) id (Err cause)
    → id < length plan.graph.vertices
unfolding vertex_value
failed_within out plan id cause is = value_within out plan.sources plan.graph.vertices id (Err cause) is

-- so a pruned plan keeps what the plan means
pub pruned_keeps : {C : Type 0} (old new : PlanValue C) → IsPruned old new → IsGraph old.graph → IsGraph new.graph → KeepsMeaning old new
pruned_keeps old new is olds news = record {
  config = is.config;
  sources = is.sources;
  last = λ out. value_stays old new is out old.target new.target olds.vertices news.vertices is.last;
  failures = λ out line cause. (
    (λ f.
        let k = is.onto f.id (failed_within out new f.id cause f.value) in
        record {
          id = k.0;
          reached = (is.reached k.0).1 (f.id, k.1);
          behind = subst (λ ls. Contains ls line) (is.lines k.0 f.id k.1) f.behind;
          value = sym (value_stays old new is out k.0 f.id olds.vertices news.vertices k.1) ∙ f.value;
        }),
    (λ f.
        let name = (is.reached f.id).0 f.reached in
        let value : IsValue (problem_of out new) name.0 (Err cause) = value_stays old new is out f.id name.0 olds.vertices news.vertices name.1 ∙ f.value in
        record {
          id = name.0;
          reached = pruned_needs old new is out name.0 (failed_within out new name.0 cause value);
          behind = subst (λ ls. Contains ls line) (sym (is.lines f.id name.0 name.1)) f.behind;
          value = value;
        }),
  );
}

-- what pruning answered on the way
pub record IsMade {C : Type 0} (plan : PlanValue C) (graph kept : GraphValue) (target : ℕ) (config : C) (sources : SourcesValue) (marks : List Bool)
    (names : Names) : Type 0 where
  pub parts : plan ≡ record { graph = graph; target = target; config = config; sources = sources }
  pub reached : AreReached graph.vertices target marks
  pub are : AreJoined graph marks (length graph.vertices) kept names

pub made : {C : Type 0} (plan : PlanValue C) (graph kept : GraphValue) (target : ℕ) (config : C) (sources : SourcesValue)
    (vertices lent_vertices : List Vertex) (places : List (List ℕ)) (marks lent_marks : List Bool) (names : Names)
    → plan ≡ record { graph = graph; target = target; config = config; sources = sources } → lent_vertices ≡ graph.vertices
    → AreReached lent_vertices target marks → lent_marks ≡ marks → graph ≡ record { vertices = vertices; places = places }
    → AreJoined (record { vertices = vertices; places = places }) lent_marks (length vertices) kept names
    → IsMade plan graph kept target config sources marks names
made plan graph kept target config sources vertices lent_vertices places marks lent_marks names parts same reached is split are = record {
  parts = parts;
  reached = subst (λ vs. AreReached vs target marks) same reached;
  are = subst (λ (g : GraphValue). AreJoined g marks (length g.vertices) kept names) (sym split)
      (subst (λ ms. AreJoined (record { vertices = vertices; places = places }) ms (length vertices) kept names) is are);
}

-- what was marked can make a graph
pub made_joinable : (graph : GraphValue) (target : ℕ) (vertices lent_vertices : List Vertex) (places : List (List ℕ)) (marks lent_marks : List Bool)
    → IsGraph graph → lent_vertices ≡ graph.vertices → AreReached lent_vertices target marks → lent_marks ≡ marks
    → graph ≡ record { vertices = vertices; places = places } → AreJoinable (record { vertices = vertices; places = places }) lent_marks
made_joinable graph target vertices lent_vertices places marks lent_marks is same reached lent split =
    subst (λ (g : GraphValue). AreJoinable g lent_marks) split
    (graph_joinable graph target lent_marks is
    (subst (λ vs. AreReached vs target lent_marks) same (subst (λ ms. AreReached lent_vertices target ms) (sym lent) reached)))

-- the target's new number, in names that were lent
pub made_named : {C : Type 0} (plan : PlanValue C) (graph kept : GraphValue) (target : ℕ) (config : C) (sources : SourcesValue) (marks : List Bool)
    (names lent : Names) → IsPlan plan → IsMade plan graph kept target config sources marks names → lent ≡ names → HasName lent target
made_named plan graph kept target config sources marks names lent is made same =
    subst (λ (ns : Names). HasName ns target) (sym same)
    (target_named plan graph kept target config sources marks names is made.parts made.reached made.are)

pub made_pruned : {C : Type 0} (plan new : PlanValue C) (graph kept : GraphValue) (target last : ℕ) (config : C) (sources : SourcesValue)
    (marks : List Bool) (names lent_names : Names) → IsGraph graph → IsGraph kept
    → IsMade plan graph kept target config sources marks names → lent_names ≡ names → slice_get lent_names target ≡ Some (Some last)
    → new ≡ record { graph = kept; target = last; config = config; sources = sources } → IsPruned plan new
made_pruned plan new graph kept target last config sources marks names lent_names olds news is same name now =
    kept_pruned plan new graph kept target last config sources marks names olds news is.parts is.reached is.are
    (subst (λ (ns : Names). slice_get ns target ≡ Some (Some last)) same name) now

pub made_keeps : {C : Type 0} (plan new : PlanValue C) (kept : GraphValue) → IsPlan plan → IsGraph kept → new.graph ≡ kept → IsPruned plan new
    → KeepsMeaning plan new
made_keeps plan new kept is graph same pruned = pruned_keeps plan new pruned is.graph (subst IsGraph (sym same) graph)
