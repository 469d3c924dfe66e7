-- What is reached over flat inputs is reached, and the other way round if it is no merge; and what has a new number becomes that one.
use Rattle.std.proofs.Common.{◌≡◌, ◌≢◌, inl, inr, ◌<◌, ℕ, Bool, true, false, zero, suc, List, [], ◌∷◌, ◌++◌, length, Option, Some, None, refl, sym, ap, ap₂, ◌∙◌, subst, arith}
use Rattle.std.specs.Prelude.{Contains, slice_get}
use Rattle.std.specs.List.{All}
use Rattle.std.proofs.lemmas.List.Elements.{All-head, All-contains, Contains-append_left, Contains-append_right, Contains-append_cases}
use Rattle.std.proofs.lemmas.Option.{slice_get_within}
use Rattle.plain.specs.Marks.{IsPath}
use Rattle.llb.specs.declared.op.Op.{Op}
use Rattle.llb.specs.declared.op.Op.TheVariants.{Source as SourceOp, Exec as ExecOp, Copy as CopyOp, MakeDirs as MakeDirsOp, Merge as MergeOp}
use Rattle.llb.specs.declared.vertex.Vertex.{Vertex}
use Rattle.llb.specs.Graph.{AreVertices}
use Rattle.llb.specs.Reach.{Reaches, HasInput}
use Rattle.llb.proofs.LineFacts.{contains_nil, contains_here, contains_there, contains_cases}
use Rattle.plans.specs.Plan.{PlanValue}
use Rattle.reached.proofs.FlatFacts.{flat_there, flat_back}
use Rattle.reached.proofs.SpellingFacts.{there_is, merge_is, flat_other, spelled_merge, spelled_itself}
use Rattle.reached.specs.Spelled.{with_first, spelled_as, spelled_at, spelled_to, spelled_out, flat_inputs, flat_vertex, flat_vertices, is_merge}
use Rattle.rewrite.specs.Flat.{Becomes, IsFlattened}
use Rattle.rewrite.specs.Pruned.{Names, AreNames, IsRenamed}

-- ---- over flat inputs

one_on : (vs : List Vertex) (k : ℕ) (v : Vertex) (i : ℕ) → slice_get vs k ≡ Some v → Contains v.inputs i → Reaches vs k i
one_on vs k v i there among = (i ∷ [], (record { v = v; there = there; among = among }, refl))

first_on : (vs : List Vertex) (k : ℕ) (v : Vertex) (first i : ℕ) → slice_get vs k ≡ Some v → Contains v.inputs first → Reaches vs first i → Reaches vs k i
first_on vs k v first i there among on = (first ∷ on.0, (record { v = v; there = there; among = among }, on.1))

itself : (vs : List Vertex) (id i : ℕ) → Contains (id ∷ []) i → Reaches vs id i
itself vs id i among = elim (contains_cases id i [] among) [ inl same ↦ ([], sym same) | inr none ↦ absurd (contains_nil i none) ]

under_first : (vs : List Vertex) (below : ℕ → List ℕ) (k : ℕ) (v : Vertex) (inputs : List ℕ) (i : ℕ) → ((first : ℕ) → Contains (below first) i → Reaches vs first i)
    → slice_get vs k ≡ Some v → v.inputs ≡ inputs → Contains (with_first below inputs) i → Reaches vs k i
under_first vs below k v [] i deeper there same among = absurd (contains_nil i among)
under_first vs below k v (first ∷ rest) i deeper there same among = elim (Contains-append_cases (below first) rest i among) [
  | inl under ↦ first_on vs k v first i there (subst (λ ins. Contains ins first) (sym same) (contains_here first rest)) (deeper first under)
  | inr more ↦ one_on vs k v i there (subst (λ ins. Contains ins i) (sym same) (contains_there first i rest more))
]

spelled_on : (vs : List Vertex) (below : ℕ → List ℕ) (id : ℕ) (v : Vertex) (op : Op) (i : ℕ) → ((first : ℕ) → Contains (below first) i → Reaches vs first i)
    → slice_get vs id ≡ Some v → Contains (spelled_as below id op v.inputs) i → Reaches vs id i
spelled_on vs below id v (SourceOp source) i deeper there among = itself vs id i among
spelled_on vs below id v (ExecOp exec) i deeper there among = itself vs id i among
spelled_on vs below id v (CopyOp files) i deeper there among = itself vs id i among
spelled_on vs below id v (MakeDirsOp path) i deeper there among = itself vs id i among
spelled_on vs below id v MergeOp i deeper there among = under_first vs below id v v.inputs i deeper there refl among

at_on : (vs : List Vertex) (below : ℕ → List ℕ) (id : ℕ) (o : Option Vertex) (i : ℕ) → ((first : ℕ) → Contains (below first) i → Reaches vs first i)
    → slice_get vs id ≡ o → Contains (spelled_at below id o) i → Reaches vs id i
at_on vs below id None i deeper there among = itself vs id i among
at_on vs below id (Some v) i deeper there among = spelled_on vs below id v v.op i deeper there among

-- what stands for a vertex in the first place of a merge is reached
to_on : (vs : List Vertex) (depth id i : ℕ) → Contains (spelled_to vs depth id) i → Reaches vs id i
to_on vs zero id i among = itself vs id i among
to_on vs (suc depth) id i among = at_on vs (spelled_to vs depth) id (slice_get vs id) i (λ first under. to_on vs depth first i under) refl among

out_on : (vs : List Vertex) (id i : ℕ) → Contains (spelled_out vs id) i → Reaches vs id i
unfolding spelled_out
out_on vs id i among = to_on vs (length vs) id i among

inputs_on : (vs : List Vertex) (k : ℕ) (v : Vertex) (op : Op) (i : ℕ) → slice_get vs k ≡ Some v → Contains (flat_inputs vs op v.inputs) i → Reaches vs k i
inputs_on vs k v (SourceOp source) i there among = one_on vs k v i there among
inputs_on vs k v (ExecOp exec) i there among = one_on vs k v i there among
inputs_on vs k v (CopyOp files) i there among = one_on vs k v i there among
inputs_on vs k v (MakeDirsOp path) i there among = one_on vs k v i there among
inputs_on vs k v MergeOp i there among = under_first vs (spelled_out vs) k v v.inputs i (λ first under. out_on vs first i under) there refl among

pub path_on : (vs : List Vertex) (a b c : ℕ) (path more : List ℕ) → IsPath (HasInput vs) a path b → IsPath (HasInput vs) b more c → IsPath (HasInput vs) a (path ++ more) c
path_on vs a b c [] more first second = subst (λ n. IsPath (HasInput vs) n more c) (sym first) second
path_on vs a b c (next ∷ path) more first second = (first.0, path_on vs next b c path more first.1 second)

-- what is reached on flat inputs is reached
pub flat_reached : (vs : List Vertex) (path : List ℕ) (from to : ℕ) → IsPath (HasInput (flat_vertices vs)) from path to → Reaches vs from to
flat_reached vs [] from to leads = ([], leads)
flat_reached vs (next ∷ path) from to leads =
    let v = flat_back vs from leads.0.v leads.0.there in
    let contained : Contains (flat_inputs vs v.0.op v.0.inputs) next = subst (λ (x : Vertex). Contains x.inputs next) v.2 leads.0.among in
    let one = inputs_on vs from v.0 v.0.op next v.1 contained in
    let rest = flat_reached vs path next to leads.1 in
    (one.0 ++ rest.0, path_on vs from next to one.0 rest.0 one.1 rest.1)

-- ---- paths

-- a vertex that isn't a merge, or doesn't stand there
abbrev pub IsNoMerge : List Vertex → ℕ → Type 0
IsNoMerge vs to = (u : Vertex) → slice_get vs to ≡ Some u → u.op ≢ MergeOp

module _ (vs : List Vertex) (are : AreVertices vs) where
  -- from a vertex on to one of its flat inputs
  on_to : (v : Vertex) (from next to : ℕ) → slice_get vs from ≡ Some v → Contains (flat_inputs vs v.op v.inputs) next → Reaches (flat_vertices vs) next to
      → Reaches (flat_vertices vs) from to
  on_to v from next to there among rest =
      (next ∷ rest.0, (record { v = flat_vertex vs v; there = flat_there vs from v there; among = among }, rest.1))

  -- from a merge on, over the one that stands first in it
  over_first : (v u : Vertex) (from first to : ℕ) (rest path : List ℕ) → slice_get vs from ≡ Some v → flat_inputs vs v.op v.inputs ≡ spelled_out vs first ++ rest
      → slice_get vs first ≡ Some u → u.op ≡ MergeOp → IsNoMerge vs to → IsPath (HasInput (flat_vertices vs)) first path to → Reaches (flat_vertices vs) from to
  over_first v u from first to rest [] there flat is merge plain leads = absurd (plain u (ap (slice_get vs) (sym leads) ∙ is) merge)
  over_first v u from first to rest (next ∷ path) there flat is merge plain leads =
      let x = flat_back vs first leads.0.v leads.0.there in
      let same : x.0 ≡ u = (let f : Some x.0 ≡ Some u = sym x.1 ∙ is in cc) in
      let in_flat : Contains (flat_inputs vs u.op u.inputs) next =
      subst (λ (y : Vertex). Contains (flat_inputs vs y.op y.inputs) next) same (subst (λ (y : Vertex). Contains y.inputs next) x.2 leads.0.among) in
      let in_spelled : Contains (spelled_out vs first) next =
      subst (λ ins. Contains ins next) (ap (λ (op : Op). flat_inputs vs op u.inputs) merge ∙ sym (spelled_merge vs are first u is merge)) in_flat in
      on_to v from next to there (subst (λ ins. Contains ins next) (sym flat) (Contains-append_left (spelled_out vs first) rest next in_spelled)) (path, leads.1)

  by_first : (v u : Vertex) (from first to : ℕ) (rest : List ℕ) (b : Bool) → slice_get vs from ≡ Some v → flat_inputs vs v.op v.inputs ≡ spelled_out vs first ++ rest
      → slice_get vs first ≡ Some u → is_merge u.op ≡ b → IsNoMerge vs to → Reaches (flat_vertices vs) first to → Reaches (flat_vertices vs) from to
  by_first v u from first to rest true there flat is merge plain on = over_first v u from first to rest on.0 there flat is (merge_is u.op merge) plain on.1
  by_first v u from first to rest false there flat is other plain on =
      let all : flat_inputs vs v.op v.inputs ≡ first ∷ rest = flat ∙ ap (λ ids. ids ++ rest) (spelled_itself vs are first u is other) in
      on_to v from first to there (subst (λ ins. Contains ins first) (sym all) (contains_here first rest)) on

  of_merge : (v : Vertex) (from next to : ℕ) (inputs : List ℕ) → slice_get vs from ≡ Some v → flat_inputs vs v.op v.inputs ≡ with_first (spelled_out vs) inputs
      → All (λ i. i < length vs) inputs → Contains inputs next → IsNoMerge vs to → Reaches (flat_vertices vs) next to → Reaches (flat_vertices vs) from to
  of_merge v from next to [] there flat low among plain on = absurd (contains_nil next among)
  of_merge v from next to (first ∷ rest) there flat low among plain on = elim (contains_cases first next rest among) [
    | inl same ↦
        let u = there_is vs first (All-head (λ i. i < length vs) first rest low) in
        by_first v u.0 from first to rest (is_merge u.0.op) there flat u.1 refl plain (subst (λ n. Reaches (flat_vertices vs) n to) same on)
    | inr more ↦ on_to v from next to there (subst (λ ins. Contains ins next) (sym flat) (Contains-append_right (spelled_out vs first) rest next more)) on
  ]

  over : (v : Vertex) (from next to : ℕ) (b : Bool) → slice_get vs from ≡ Some v → is_merge v.op ≡ b → Contains v.inputs next → IsNoMerge vs to
      → Reaches (flat_vertices vs) next to → Reaches (flat_vertices vs) from to
  over v from next to true there merge among plain on =
      let within = slice_get_within vs from v there in
      of_merge v from next to v.inputs there (ap (λ (op : Op). flat_inputs vs op v.inputs) (merge_is v.op merge))
      (λ j d lt. (let at = are.after from v there j d lt in omega (arith, at, within))) among plain on
  over v from next to false there other among plain on =
      on_to v from next to there (subst (λ ins. Contains ins next) (sym (flat_other vs v.op v.inputs other)) among) on

  -- a path to a vertex that isn't a merge leads on over flat inputs
  pub reached_flat : (path : List ℕ) (from to : ℕ) → IsPath (HasInput vs) from path to → IsNoMerge vs to → Reaches (flat_vertices vs) from to
  reached_flat [] from to leads plain = ([], leads)
  reached_flat (next ∷ path) from to leads plain =
      over leads.0.v from next to (is_merge leads.0.v.op) leads.0.there refl leads.0.among plain (reached_flat path next to leads.1 plain)

-- ---- what is spelled out

module _ (vs : List Vertex) (are : AreVertices vs) (target : ℕ) where
  -- what stands for a vertex in the first place of a merge is reached over flat inputs
  abbrev pub AreSpelledReached : ℕ → Type 0
  AreSpelledReached x = (i : ℕ) → Contains (spelled_out vs x) i → Reaches (flat_vertices vs) target i

  step_on : (from next : ℕ) (v : Vertex) → slice_get vs from ≡ Some v → Contains (flat_inputs vs v.op v.inputs) next → Reaches (flat_vertices vs) target from
      → Reaches (flat_vertices vs) target next
  step_on from next v there among on =
      (on.0 ++ next ∷ [], path_on (flat_vertices vs) target from next on.0 (next ∷ []) on.1 (record { v = flat_vertex vs v; there = flat_there vs from v there; among = among }, refl))

  -- so it is of one that is reached so
  of_reached : (x : ℕ) (u : Vertex) (b : Bool) → slice_get vs x ≡ Some u → is_merge u.op ≡ b → Reaches (flat_vertices vs) target x → AreSpelledReached x
  of_reached x u true there merge on i among =
      let op : u.op ≡ MergeOp = merge_is u.op merge in
      step_on x i u there (subst (λ ins. Contains ins i) (spelled_merge vs are x u there op ∙ sym (ap (λ (o : Op). flat_inputs vs o u.inputs) op)) among) on
  of_reached x u false there other on i among =
      elim (contains_cases x i [] (subst (λ ins. Contains ins i) (spelled_itself vs are x u there other) among)) [
        | inl same ↦ subst (Reaches (flat_vertices vs) target) (sym same) on
        | inr none ↦ absurd (contains_nil i none)
      ]

  -- and of an input of one of which it is
  in_merge : (from next : ℕ) (v u : Vertex) (inputs : List ℕ) → spelled_out vs from ≡ with_first (spelled_out vs) inputs → Contains inputs next → slice_get vs next ≡ Some u
      → AreSpelledReached from → AreSpelledReached next
  in_merge from next v u [] spelled among there before = absurd (contains_nil next among)
  in_merge from next v u (first ∷ rest) spelled among there before = elim (contains_cases first next rest among) [
    | inl same ↦ λ i is. before i (subst (λ ins. Contains ins i) (sym spelled) (Contains-append_left (spelled_out vs first) rest i (subst (λ n. Contains (spelled_out vs n) i) same is)))
    | inr more ↦ of_reached next u (is_merge u.op) there refl (before next (subst (λ ins. Contains ins next) (sym spelled) (Contains-append_right (spelled_out vs first) rest next more)))
  ]

  of_input : (from next : ℕ) (v u : Vertex) (b : Bool) → slice_get vs from ≡ Some v → is_merge v.op ≡ b → Contains v.inputs next → slice_get vs next ≡ Some u
      → AreSpelledReached from → AreSpelledReached next
  of_input from next v u true at merge among there before =
      in_merge from next v u v.inputs (spelled_merge vs are from v at (merge_is v.op merge)) among there before
  of_input from next v u false at other among there before =
      let on = before from (subst (λ ins. Contains ins from) (sym (spelled_itself vs are from v at other)) (contains_here from [])) in
      of_reached next u (is_merge u.op) there refl (step_on from next v at (subst (λ ins. Contains ins next) (sym (flat_other vs v.op v.inputs other)) among) on)

  along : (path : List ℕ) (from to : ℕ) → IsPath (HasInput vs) from path to → AreSpelledReached from → AreSpelledReached to
  along [] from to leads before = subst AreSpelledReached leads before
  along (next ∷ path) from to leads before =
      let v = leads.0.v in
      let lt = slice_get_within vs from v leads.0.there in
      let low : next < from = All-contains (λ i. i < from) v.inputs next (are.after from v leads.0.there) leads.0.among in
      let u = there_is vs next (omega (arith, lt, low)) in
      along path next to leads.1 (of_input from next v u.0 (is_merge v.op) leads.0.there refl leads.0.among u.1 before)

  -- and so of all that are reached
  pub all_spelled_reached : target < length vs → (k : ℕ) → Reaches vs target k → AreSpelledReached k
  all_spelled_reached lt k on =
      let v = there_is vs target lt in
      along on.0 target k on.1 (of_reached target v.0 (is_merge v.0.op) v.1 refl ([], refl))

-- ---- new numbers

-- the new numbers of vertices are one list
pub one_list : (names : Names) (olds news others : List ℕ) → AreNames names olds news → AreNames names olds others → news ≡ others
one_list names [] [] [] these those = refl
one_list names [] [] (n ∷ others) these those = absurd those
one_list names [] (m ∷ news) others these those = absurd these
one_list names (o ∷ olds) [] others these those = absurd these
one_list names (o ∷ olds) (m ∷ news) [] these those = absurd those
one_list names (o ∷ olds) (m ∷ news) (n ∷ others) these those =
    let first : m ≡ n = (let f : Some (Some m) ≡ Some (Some n) = sym these.0 ∙ those.0 in cc) in
    ap₂ (λ (x : ℕ) (xs : List ℕ). x ∷ xs) first (one_list names olds news others these.1 those.1)

abbrev vertex_of : Op → List ℕ → Vertex
vertex_of op inputs = record { op = op; inputs = inputs }

-- a vertex on the new numbers of its inputs is one
pub one_renamed : (names : Names) (old new other : Vertex) → IsRenamed names old new → IsRenamed names old other → new ≡ other
one_renamed names old new other this that =
    ap₂ vertex_of (this.op ∙ sym that.op) (one_list names old.inputs new.inputs other.inputs this.inputs that.inputs)

-- what has a new number becomes that one
pub named_becomes : {C : Type 0} (old new : PlanValue C) (is : IsFlattened old new) (k id : ℕ) → slice_get is.names k ≡ Some (Some id) → Becomes old new is.names k id
named_becomes old new is k id name =
    let v = there_is old.graph.vertices k (let l = slice_get_within is.names k (Some id) name in omega (arith, l, is.long)) in
    let s = is.same k id v.0 name v.1 in
    let path = (is.reached k).1 (id, name) in
    record {
      reached = flat_reached old.graph.vertices path.0 old.target k path.1;
      vertex = v.0;
      there = v.1;
      renamed = s.0;
      is = s.1;
      same = s.2;
    }
