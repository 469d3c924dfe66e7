-- A file is drawn in one way: what is left of its graph, with links put into one and without what the target doesn't reach, has its vertices in the
-- order in which they are met first, and equal ones are one, with the lines of all.
use Rattle.std.proofs.Common.{◌≡◌, inl, inr, ◌<◌, ◌≤◌, ℕ, zero, suc, List, [], ◌∷◌, Some, length, refl, sym, ap, ◌∙◌, subst, arith}
use Rattle.std.specs.Prelude.{slice_get, Contains}
use Rattle.std.specs.List.{All, AllZip}
use Rattle.std.proofs.lemmas.Bool.{cases_lt}
use Rattle.std.proofs.lemmas.List.Elements.{All-head, All-tail}
use Rattle.std.proofs.lemmas.Option.{same_Some, slice_get_within}
use Rattle.runs.specs.declared.run.RunOutcome.TheVariants.{Exit}
use Rattle.llb.specs.Graph.{IsAfterInputs}
use Rattle.llb.specs.Reach.{Reaches}
use Rattle.llb.specs.declared.op.Op.{Op}
use Rattle.llb.specs.declared.vertex.Vertex.{Vertex}
use Rattle.plans.specs.Plan.{PlanValue, IsPlan}
use Rattle.plans.specs.Value.{Out}
use Rattle.reached.proofs.FlatFacts.{flat_there, flat_back, flat_after}
use Rattle.reached.proofs.SpellingFacts.{there_is}
use Rattle.reached.specs.Spelled.{flat_vertex, flat_vertices}
use Rattle.rewrite.specs.Flat.{Becomes, IsFlattened}
use Rattle.rewrite.specs.Pruned.{Names, AreNames, IsPruned}
use Rattle.rewrite.proofs.FlattenedFacts.{flat_needs}
use Rattle.lowering.specs.Meaning.{Rows}
use Rattle.lowering.specs.Means.{StandsFor, lines_at}
use Rattle.lowering.specs.Vertices.{Places, HasPlace}
use Rattle.definition.specs.Definition.{definition_text}
use Rattle.drawing.specs.Drawn.{Draws}
use Rattle.build.proofs.OnePlanFacts.{AreOnce, same_items, one_graph}
use Rattle.build.proofs.OneLinesFacts.{same_places}

-- ---- vertices under new numbers

-- vertices come under new numbers: those that the target reaches, in the order in which a number is met first, each on the new numbers of its inputs,
-- and no vertex comes twice
record IsNaming (olds : List Vertex) (target : ℕ) (news : List Vertex) (last : ℕ) (N : ℕ → ℕ → Type 0) : Type 0 where
  reached : (k : ℕ) → Reaches olds target k → (id : ℕ) × N k id
  back : (k id : ℕ) → N k id → Reaches olds target k
  there : (k id : ℕ) → N k id → (v : Vertex) × (slice_get olds k ≡ Some v)
  onto : (id : ℕ) → id < length news → (k : ℕ) × N k id
  ordered : (k a b : ℕ) → N k b → a < b → (j : ℕ) × (j < k) × N j a
  same : (k id : ℕ) (v : Vertex) → N k id → slice_get olds k ≡ Some v → (u : Vertex) × (slice_get news id ≡ Some u) × (u.op ≡ v.op) × AllZip N v.inputs u.inputs
  last_is : N target last
  once : AreOnce news

-- two ways give vertices below some number the same new numbers
abbrev Agree : (ℕ → ℕ → Type 0) → (ℕ → ℕ → Type 0) → ℕ → Type 0
Agree M N n = (k : ℕ) → k < n → (a b : ℕ) → M k a → N k b → a ≡ b

vertex_is : (u v : Vertex) → u.op ≡ v.op → u.inputs ≡ v.inputs → u ≡ v
vertex_is u v ops ins = ap (λ (op : Op). record { op = op; inputs = u.inputs }) ops ∙ ap (λ (is : List ℕ). record { op = v.op; inputs = is }) ins

zip_same : (M N : ℕ → ℕ → Type 0) (n : ℕ) → Agree M N n → (xs ids others : List ℕ) → All (λ x. x < n) xs → AllZip M xs ids → AllZip N xs others → ids ≡ others
zip_same M N n agree [] [] [] low these those = refl
zip_same M N n agree [] [] (b ∷ others) low these those = absurd those
zip_same M N n agree [] (a ∷ ids) others low these those = absurd these
zip_same M N n agree (x ∷ xs) [] others low these those = absurd these
zip_same M N n agree (x ∷ xs) (a ∷ ids) [] low these those = absurd those
zip_same M N n agree (x ∷ xs) (a ∷ ids) (b ∷ others) low these those =
    let first = agree x (All-head (λ x. x < n) x xs low) a b these.0 those.0 in
    let rest = zip_same M N n agree xs ids others (All-tail (λ x. x < n) x xs low) these.1 those.1 in
    ap (λ i. i ∷ ids) first ∙ ap (λ is. b ∷ is) rest

module _ (olds : List Vertex) (target : ℕ) (after : (k : ℕ) (v : Vertex) → slice_get olds k ≡ Some v → IsAfterInputs k v) where
  -- a number isn't less in one way than in another
  not_less : (A B : List Vertex) (last_a last_b : ℕ) (M N : ℕ → ℕ → Type 0) → IsNaming olds target A last_a M → IsNaming olds target B last_b N
      → (k : ℕ) → Agree M N k → (a b : ℕ) → M k a → N k b → a < b → ⊥
  not_less A B last_a last_b M N one other k agree a b named was less =
      let j = other.ordered k a b was less in
      let again = one.reached j.0 (other.back j.0 a j.2) in
      let named_j : M j.0 a = subst (M j.0) (agree j.0 j.1 again.0 a again.1 j.2) again.1 in
      let v = one.there k a named in
      let w = one.there j.0 a named_j in
      let at_a = one.same k a v.0 named v.1 in
      let at_j = one.same j.0 a w.0 named_j w.1 in
      let at_b = other.same k b v.0 was v.1 in
      let at_i = other.same j.0 a w.0 j.2 w.1 in
      let alike : at_a.0 ≡ at_j.0 = same_Some at_a.0 at_j.0 (sym at_a.1 ∙ at_j.1) in
      let lower : Agree M N j.0 = λ i low. agree i (let l = j.1 in omega (arith, low, l)) in
      let ops : at_i.0.op ≡ at_b.0.op = at_i.2 ∙ (sym at_j.2 ∙ (ap (λ (u : Vertex). u.op) (sym alike) ∙ (at_a.2 ∙ sym at_b.2))) in
      let ins_j : at_j.0.inputs ≡ at_i.0.inputs = zip_same M N j.0 lower w.0.inputs at_j.0.inputs at_i.0.inputs (after j.0 w.0 w.1) at_j.3 at_i.3 in
      let ins_k : at_a.0.inputs ≡ at_b.0.inputs = zip_same M N k agree v.0.inputs at_a.0.inputs at_b.0.inputs (after k v.0 v.1) at_a.3 at_b.3 in
      let ins : at_i.0.inputs ≡ at_b.0.inputs = sym ins_j ∙ (ap (λ (u : Vertex). u.inputs) (sym alike) ∙ ins_k) in
      let same : at_i.0 ≡ at_b.0 = vertex_is at_i.0 at_b.0 ops ins in
      let equal : a ≡ b = other.once a b at_b.0 (at_i.1 ∙ ap (λ (u : Vertex). Some u) same) at_b.1 in
      omega (arith, equal, less)

  agree_on : (A B : List Vertex) (last_a last_b : ℕ) (M N : ℕ → ℕ → Type 0) → IsNaming olds target A last_a M → IsNaming olds target B last_b N
      → (n : ℕ) → Agree M N n
  agree_on A B last_a last_b M N one other zero k low a b named was = absurd (omega (arith, low))
  agree_on A B last_a last_b M N one other (suc n) k low a b named was =
      let below : Agree M N k = λ j l. agree_on A B last_a last_b M N one other n j (omega (arith, low, l)) in
      let beside : Agree N M k = λ j l p q x y. sym (below j l q p y x) in
      elim (cases_lt a b) [
        | inl less ↦ absurd (not_less A B last_a last_b M N one other k below a b named was less)
        | inr not_a ↦ elim (cases_lt b a) [
          | inl more ↦ absurd (not_less B A last_b last_a N M other one k beside b a was named more)
          | inr not_b ↦ omega (arith, not_a, not_b)
        ]
      ]

  -- a new vertex of one way is that of the other
  same_new : (A B : List Vertex) (last_a last_b : ℕ) (M N : ℕ → ℕ → Type 0) → IsNaming olds target A last_a M → IsNaming olds target B last_b N
      → (id : ℕ) → id < length A → (u : Vertex) × (slice_get A id ≡ Some u) × (slice_get B id ≡ Some u)
  same_new A B last_a last_b M N one other id within =
      let k = one.onto id within in
      let again = other.reached k.0 (one.back k.0 id k.1) in
      let number : id ≡ again.0 = agree_on A B last_a last_b M N one other (suc k.0) k.0 (omega arith) id again.0 k.1 again.1 in
      let v = one.there k.0 id k.1 in
      let at_a = one.same k.0 id v.0 k.1 v.1 in
      let at_b = other.same k.0 again.0 v.0 again.1 v.1 in
      let ins : at_b.0.inputs ≡ at_a.0.inputs =
      sym (zip_same M N k.0 (agree_on A B last_a last_b M N one other k.0) v.0.inputs at_a.0.inputs at_b.0.inputs (after k.0 v.0 v.1) at_a.3 at_b.3) in
      let same : at_b.0 ≡ at_a.0 = vertex_is at_b.0 at_a.0 (at_b.2 ∙ sym at_a.2) ins in
      (at_a.0, at_a.1, ap (λ i. slice_get B i) number ∙ (at_b.1 ∙ ap (λ (u : Vertex). Some u) same))

  not_longer : (A B : List Vertex) (last_a last_b : ℕ) (M N : ℕ → ℕ → Type 0) → IsNaming olds target A last_a M → IsNaming olds target B last_b N → length A ≤ length B
  not_longer A B last_a last_b M N one other = elim (cases_lt (length B) (length A)) [
    | inl longer ↦
        let found = same_new A B last_a last_b M N one other (length B) longer in
        let within = slice_get_within B (length B) found.0 found.2 in
        absurd (omega (arith, within))
    | inr fine ↦ fine
  ]

  one_naming : (A B : List Vertex) (last_a last_b : ℕ) (M N : ℕ → ℕ → Type 0) → IsNaming olds target A last_a M → IsNaming olds target B last_b N
      → (A ≡ B) × (last_a ≡ last_b) × ((k a b : ℕ) → M k a → N k b → a ≡ b)
  one_naming A B last_a last_b M N one other =
      let most = not_longer A B last_a last_b M N one other in
      let least = not_longer B A last_b last_a N M other one in (
        same_items A B (omega (arith, most, least)) (λ k low. (let found = same_new A B last_a last_b M N one other k low in found.1 ∙ sym found.2)),
        agree_on A B last_a last_b M N one other (suc target) target (omega arith) last_a last_b one.last_is other.last_is,
        λ k a b named was. agree_on A B last_a last_b M N one other (suc k) k (omega arith) a b named was,
      )

-- ---- a simplified plan

-- the new number of a vertex once links are put into one, and then once what the target doesn't reach is left out
abbrev Named : Names → Names → ℕ → ℕ → Type 0
Named flat pruned k id = (m : ℕ) × (slice_get flat k ≡ Some (Some m)) × (slice_get pruned m ≡ Some (Some id))

zip_both : (flat pruned : Names) (olds mids news : List ℕ) → AreNames flat olds mids → AreNames pruned mids news → AllZip (Named flat pruned) olds news
zip_both flat pruned [] [] [] these those = tt
zip_both flat pruned [] [] (n ∷ ns) these those = absurd those
zip_both flat pruned [] (m ∷ ms) news these those = absurd these
zip_both flat pruned (o ∷ os) [] news these those = absurd these
zip_both flat pruned (o ∷ os) (m ∷ ms) [] these those = absurd those
zip_both flat pruned (o ∷ os) (m ∷ ms) (n ∷ ns) these those = ((m, these.0, those.0), zip_both flat pruned os ms ns these.1 those.1)

-- an executor, for what holds under each
some_out : Out
some_out request = Exit 1

module _ {C : Type 0} (old flat simple : PlanValue C) (is : IsPlan old) (f : IsFlattened old flat) (p : IsPruned flat simple) (once : AreOnce simple.graph.vertices) where
  abbrev N : ℕ → ℕ → Type 0
  N = Named f.names p.names

  within_flat : (m id : ℕ) → slice_get p.names m ≡ Some (Some id) → m < length flat.graph.vertices
  within_flat m id named = let l = slice_get_within p.names m (Some id) named in omega (arith, l, p.long)

  old_there : (k m : ℕ) → slice_get f.names k ≡ Some (Some m) → (v : Vertex) × (slice_get old.graph.vertices k ≡ Some v)
  old_there k m named = there_is old.graph.vertices k (let l = slice_get_within f.names k (Some m) named in omega (arith, l, f.long))

  flat_within : (k m : ℕ) → slice_get f.names k ≡ Some (Some m) → m < length flat.graph.vertices
  flat_within k m named =
      let v = old_there k m named in
      let u = f.same k m v.0 named v.1 in
      slice_get_within flat.graph.vertices m u.0 u.1

  reached_name : (k : ℕ) → Reaches (flat_vertices old.graph.vertices) old.target k → (id : ℕ) × N k id
  reached_name k reach =
      let m = (f.reached k).0 reach in
      let id = (p.reached m.0).0 (flat_needs old flat f some_out m.0 (flat_within k m.0 m.1)) in
      (id.0, (m.0, m.1, id.1))

  lower_name : (m id other : ℕ) → slice_get p.names m ≡ Some (Some id) → other < id → (n : ℕ) × (n < m) × (slice_get p.names n ≡ Some (Some other))
  lower_name m id other named less =
      let v = there_is flat.graph.vertices m (within_flat m id named) in
      let u = p.same m id v.0 named v.1 in
      let n = p.onto other (let l = slice_get_within simple.graph.vertices id u.0 u.1 in omega (arith, l, less)) in
      elim (cases_lt n.0 m) [
        | inl before ↦ (n.0, before, n.1)
        | inr not_before ↦ elim (cases_lt m n.0) [
          | inl after ↦ (let more = p.ordered m n.0 id other named n.1 after in absurd (omega (arith, more, less)))
          | inr not_after ↦
              let one : n.0 ≡ m = omega (arith, not_before, not_after) in
              let same : Some (Some other) ≡ Some (Some id) = sym n.1 ∙ (ap (λ i. slice_get p.names i) one ∙ named) in
              let equal : other ≡ id = cc in
              absurd (omega (arith, equal, less))
        ]
      ]

  ordered_name : (k a b : ℕ) → N k b → a < b → (j : ℕ) × (j < k) × N j a
  ordered_name k a b named less =
      let n = lower_name named.0 b a named.2 less in
      let j = f.ordered k n.0 named.0 named.1 n.1 in
      (j.0, j.1, (n.0, j.2, n.2))

  same_name : (k id : ℕ) (v : Vertex) → N k id → slice_get (flat_vertices old.graph.vertices) k ≡ Some v
      → (u : Vertex) × (slice_get simple.graph.vertices id ≡ Some u) × (u.op ≡ v.op) × AllZip N v.inputs u.inputs
  same_name k id v named at =
      let from = flat_back old.graph.vertices k v at in
      let mid = f.same k named.0 from.0 named.1 from.1 in
      let new = p.same named.0 id mid.0 named.2 mid.1 in
      let op : new.0.op ≡ v.op = new.2.op ∙ (mid.2.op ∙ ap (λ (x : Vertex). x.op) (sym from.2)) in
      let ins : AreNames f.names v.inputs mid.0.inputs = subst (λ (x : Vertex). AreNames f.names x.inputs mid.0.inputs) (sym from.2) mid.2.inputs in
      (new.0, new.1, op, zip_both f.names p.names v.inputs mid.0.inputs new.0.inputs ins new.2.inputs)

  there_name : (k id : ℕ) → N k id → (v : Vertex) × (slice_get (flat_vertices old.graph.vertices) k ≡ Some v)
  there_name k id named =
      let v = old_there k named.0 named.1 in
      (flat_vertex old.graph.vertices v.0, flat_there old.graph.vertices k v.0 v.1)

  onto_name : (id : ℕ) → id < length simple.graph.vertices → (k : ℕ) × N k id
  onto_name id within =
      let m = p.onto id within in
      let k = f.onto m.0 (within_flat m.0 id m.1) in
      (k.0, (m.0, k.1, m.1))

  simple_naming : IsNaming (flat_vertices old.graph.vertices) old.target simple.graph.vertices simple.target N
  simple_naming = record {
    reached = reached_name;
    back = λ k id named. (f.reached k).1 (named.0, named.1);
    there = there_name;
    onto = onto_name;
    ordered = ordered_name;
    same = same_name;
    last_is = (flat.target, f.last, p.last);
    once = once;
  }

-- ---- the lines

-- a vertex that the target reached is one of those that are left, on its flat inputs under their new numbers
record IsOne (olds : List Vertex) (target : ℕ) (news : List Vertex) (N : ℕ → ℕ → Type 0) (k id : ℕ) : Type 0 where
  reached : Reaches olds target k
  vertex : Vertex
  there : slice_get olds k ≡ Some vertex
  renamed : Vertex
  is : slice_get news id ≡ Some renamed
  op : renamed.op ≡ vertex.op
  inputs : AllZip N (flat_vertex olds vertex).inputs renamed.inputs

-- two vertices that are kept have two numbers
one_kept : {C : Type 0} (flat simple : PlanValue C) (p : IsPruned flat simple) (j k a : ℕ) → slice_get p.names j ≡ Some (Some a) → slice_get p.names k ≡ Some (Some a) → j ≡ k
one_kept flat simple p j k a this that = elim (cases_lt j k) [
  | inl less ↦ (let lt = p.ordered j k a a this that less in absurd (omega (arith, lt)))
  | inr not_less ↦ elim (cases_lt k j) [
    | inl more ↦ (let lt = p.ordered k j a a that this more in absurd (omega (arith, lt)))
    | inr not_more ↦ omega (arith, not_less, not_more)
  ]
]

-- the numbers between
zip_between : (flat pruned : Names) → ((j k a : ℕ) → slice_get pruned j ≡ Some (Some a) → slice_get pruned k ≡ Some (Some a) → j ≡ k) → (olds mids news : List ℕ)
    → AllZip (Named flat pruned) olds news → AreNames pruned mids news → AreNames flat olds mids
zip_between flat pruned one [] [] [] these those = tt
zip_between flat pruned one [] (m ∷ ms) [] these those = absurd those
zip_between flat pruned one [] mids (n ∷ ns) these those = absurd these
zip_between flat pruned one (o ∷ os) mids [] these those = absurd these
zip_between flat pruned one (o ∷ os) [] (n ∷ ns) these those = absurd those
zip_between flat pruned one (o ∷ os) (m ∷ ms) (n ∷ ns) these those =
    (subst (λ i. slice_get flat o ≡ Some (Some i)) (one these.0.0 m n these.0.2 those.0) these.0.1, zip_between flat pruned one os ms ns these.1 those.1)

zip_over : (M N : ℕ → ℕ → Type 0) → ((j i : ℕ) → N j i → M j i) → (olds news : List ℕ) → AllZip N olds news → AllZip M olds news
zip_over M N over [] [] these = tt
zip_over M N over [] (n ∷ ns) these = absurd these
zip_over M N over (o ∷ os) [] these = absurd these
zip_over M N over (o ∷ os) (n ∷ ns) these = (over o n these.0, zip_over M N over os ns these.1)

module _ {C : Type 0} (old flat simple : PlanValue C) (f : IsFlattened old flat) (p : IsPruned flat simple) where
  -- a line behind a vertex that is left is one of a vertex that became it
  line_from : (id line : ℕ) → id < length simple.graph.vertices → Contains (lines_at simple.graph id) line
      → (k : ℕ) × IsOne old.graph.vertices old.target simple.graph.vertices (Named f.names p.names) k id × Contains (lines_at old.graph k) line
  line_from id line within is =
      let m = p.onto id within in
      let inside : m.0 < length flat.graph.vertices = (let l = slice_get_within p.names m.0 (Some id) m.1 in omega (arith, l, p.long)) in
      let k = (f.lines m.0 line inside).0 (subst (λ (ls : List ℕ). Contains ls line) (p.lines m.0 id m.1) is) in
      let u = p.same m.0 id k.1.renamed m.1 k.1.is in (
        k.0,
        record {
          reached = k.1.reached;
          vertex = k.1.vertex;
          there = k.1.there;
          renamed = u.0;
          is = u.1;
          op = u.2.op ∙ k.1.same.op;
          inputs = zip_both f.names p.names (flat_vertex old.graph.vertices k.1.vertex).inputs k.1.renamed.inputs u.0.inputs k.1.same.inputs u.2.inputs;
        },
        k.2,
      )

  -- and the other way round
  line_to : (k id line : ℕ) → IsOne old.graph.vertices old.target simple.graph.vertices (Named f.names p.names) k id → Contains (lines_at old.graph k) line
      → Contains (lines_at simple.graph id) line
  line_to k id line one is =
      let m = p.onto id (slice_get_within simple.graph.vertices id one.renamed one.is) in
      let inside : m.0 < length flat.graph.vertices = (let l = slice_get_within p.names m.0 (Some id) m.1 in omega (arith, l, p.long)) in
      let x = there_is flat.graph.vertices m.0 inside in
      let u = p.same m.0 id x.0 m.1 x.1 in
      let same : u.0 ≡ one.renamed = same_Some u.0 one.renamed (sym u.1 ∙ one.is) in
      let ids = (flat_vertex old.graph.vertices one.vertex).inputs in
      let ins : AllZip (Named f.names p.names) ids u.0.inputs = subst (λ (v : Vertex). AllZip (Named f.names p.names) ids v.inputs) (sym same) one.inputs in
      let op : x.0.op ≡ one.vertex.op = sym u.2.op ∙ (ap (λ (v : Vertex). v.op) same ∙ one.op) in
      let becomes : Becomes old flat f.names k m.0 = record {
        reached = one.reached;
        vertex = one.vertex;
        there = one.there;
        renamed = x.0;
        is = x.1;
        same = record { op = op; inputs = zip_between f.names p.names (one_kept flat simple p) ids x.0.inputs u.0.inputs ins u.2.inputs };
      } in
      subst (λ (ls : List ℕ). Contains ls line) (sym (p.lines m.0 id m.1)) ((f.lines m.0 line inside).1 (k, becomes, is))

-- the lines behind a vertex that is left of one plan are behind that of the other
module _ {C : Type 0} (one other flat_one flat_other simple_one simple_other : PlanValue C) (f : IsFlattened one flat_one) (p : IsPruned flat_one simple_one)
    (g : IsFlattened other flat_other) (q : IsPruned flat_other simple_other) (vertices : one.graph.vertices ≡ other.graph.vertices) (targets : one.target ≡ other.target)
    (left : simple_one.graph.vertices ≡ simple_other.graph.vertices) where
  lines_over : ((k line : ℕ) → Contains (lines_at one.graph k) line → Contains (lines_at other.graph k) line)
      → ((k id : ℕ) → Named f.names p.names k id → (also : ℕ) × Named g.names q.names k also)
      → ((k a b : ℕ) → Named f.names p.names k a → Named g.names q.names k b → a ≡ b)
      → (id line : ℕ) → id < length simple_one.graph.vertices → Contains (lines_at simple_one.graph id) line → Contains (lines_at simple_other.graph id) line
  lines_over behind reached agree id line within is =
      let k = line_from one flat_one simple_one f p id line within is in
      let over : (j i : ℕ) → Named f.names p.names j i → Named g.names q.names j i =
      λ j i named. (let also = reached j i named in subst (λ n. Named g.names q.names j n) (sym (agree j i also.0 named also.1)) also.1) in
      let ids = (flat_vertex one.graph.vertices k.1.vertex).inputs in
      let ins = zip_over (Named g.names q.names) (Named f.names p.names) over ids k.1.renamed.inputs k.1.inputs in
      let here : IsOne other.graph.vertices other.target simple_other.graph.vertices (Named g.names q.names) k.0 id = record {
        reached = subst (λ (vs : List Vertex). Reaches vs other.target k.0) vertices (subst (λ t. Reaches one.graph.vertices t k.0) targets k.1.reached);
        vertex = k.1.vertex;
        there = ap (λ (vs : List Vertex). slice_get vs k.0) (sym vertices) ∙ k.1.there;
        renamed = k.1.renamed;
        is = ap (λ (vs : List Vertex). slice_get vs id) (sym left) ∙ k.1.is;
        op = k.1.op;
        inputs = subst (λ (vs : List Vertex). AllZip (Named g.names q.names) (flat_vertex vs k.1.vertex).inputs k.1.renamed.inputs) vertices ins;
      } in
      line_to other flat_other simple_other g q k.0 id line here (behind k.0 line k.2)

-- ---- one text

-- two plans that stand for a file have the same lines behind a vertex
lines_stand : {C : Type 0} (one other : PlanValue C) (rows : Rows) (target : ℕ) (this : StandsFor one rows target) (that : StandsFor other rows target) → this.places ≡ that.places
    → (k line : ℕ) → Contains (lines_at one.graph k) line → Contains (lines_at other.graph k) line
lines_stand one other rows target this that same k line is =
    (that.lines k line).1 (subst (λ (ps : Places). HasPlace ps line k) same ((this.lines k line).0 is))

pub one_drawing : {C : Type 0} (one other : PlanValue C) (rows : Rows) (target : ℕ) (text beside : List ℕ) → IsPlan one → IsPlan other → StandsFor one rows target
    → StandsFor other rows target → Draws one text → Draws other beside → text ≡ beside
one_drawing one other rows target text beside is was this that these those =
    let graph = one_graph one other rows target this that is.graph.vertices was.graph.vertices in
    let f = these.simplified.flattened in
    let p = these.simplified.pruned in
    let g = those.simplified.flattened in
    let q = those.simplified.pruned in
    let N = Named f.names p.names in
    let M = Named g.names q.names in
    let first = simple_naming one these.simplified.flat these.simple is f p these.is.vertices.once in
    let second = simple_naming other those.simplified.flat those.simple was g q those.is.vertices.once in
    let moved : IsNaming (flat_vertices one.graph.vertices) one.target those.simple.graph.vertices those.simple.target M =
    subst (λ (t : ℕ). IsNaming (flat_vertices one.graph.vertices) t those.simple.graph.vertices those.simple.target M) (sym graph.1)
    (subst (λ (vs : List Vertex). IsNaming (flat_vertices vs) other.target those.simple.graph.vertices those.simple.target M) (sym graph.0) second) in
    let same =
    one_naming (flat_vertices one.graph.vertices) one.target (flat_after one.graph.vertices is.graph.vertices) these.simple.graph.vertices those.simple.graph.vertices
    these.simple.target those.simple.target N M first moved in
    let places : these.simple.graph.places ≡ those.simple.graph.places =
    same_places these.simple.graph those.simple.graph these.is those.is (ap (λ (vs : List Vertex). length vs) same.0)
    (lines_over one other these.simplified.flat those.simplified.flat these.simple those.simple f p g q graph.0 graph.1 same.0 (lines_stand one other rows target this that graph.2)
    (λ k id named. moved.reached k (first.back k id named)) same.2)
    (lines_over other one those.simplified.flat these.simplified.flat those.simple these.simple g q f p (sym graph.0) (sym graph.1) (sym same.0) (lines_stand other one rows target that this (sym graph.2))
    (λ k id named. first.reached k (moved.back k id named)) (λ k a b named also. sym (same.2 k b a also named))) in
    these.defines.written.1
    ∙ (ap (λ (vs : List Vertex). definition_text (record { vertices = vs; places = these.simple.graph.places }) these.simple.target) same.0
    ∙ (ap (λ (ps : List (List ℕ)). definition_text (record { vertices = those.simple.graph.vertices; places = ps }) these.simple.target) places
    ∙ (ap (λ (t : ℕ). definition_text those.simple.graph t) same.1 ∙ sym those.defines.written.1)))
