-- Merges that are spelled out: what stands in them.
use Rattle.std.proofs.Common.{◌≡◌, ◌≢◌, inl, inr, ◌<◌, ◌≤◌, ℕ, zero, suc, Bool, true, false, List, [], ◌∷◌, ◌++◌, length, Option, Some, None, refl, sym, ap}
use Rattle.std.proofs.Common.{◌∙◌, subst, arith, length-append}
use Rattle.std.specs.Prelude.{IsTrue, slice_get, Contains}
use Rattle.std.specs.List.{All}
use Rattle.std.proofs.lemmas.Bool.{leb-true, le-leb}
use Rattle.std.proofs.lemmas.Option.{slice_get_within}
use Rattle.std.proofs.lemmas.List.Elements.{All-append, All-cons, All-nil, All-head, All-tail, All-weaker, Contains-append_cases}
use Rattle.llb.specs.declared.op.Op.{Op}
use Rattle.llb.specs.declared.op.Op.TheVariants.{Source as SourceOp, Exec as ExecOp, Copy as CopyOp, MakeDirs as MakeDirsOp, Merge as MergeOp}
use Rattle.llb.specs.declared.vertex.Vertex.{Vertex}
use Rattle.llb.specs.Graph.{AreVertices}
use Rattle.llb.specs.Reach.{Reaches}
use Rattle.llb.specs.WellFormed.{is_well_formed_on}
use Rattle.llb.proofs.LineFacts.{contains_nil, contains_here, contains_there, contains_cases}
use Rattle.reached.specs.Spelled.{with_first, spelled_as, spelled_at, spelled_to, spelled_out, flat_inputs, is_merge}

-- what stands in a list at a number
pub there_is : {X : Type 0} (xs : List X) (k : ℕ) → k < length xs → (x : X) × (slice_get xs k ≡ Some x)
there_is [] k lt = absurd (omega (arith, lt))
there_is (x ∷ xs) zero lt = (x, refl)
there_is (x ∷ xs) (suc k) lt = there_is xs k (omega (arith, lt))

head_same : (a b : ℕ) (xs ys : List ℕ) → a ∷ xs ≡ b ∷ ys → a ≡ b
head_same a b xs ys e = cc

some_same : (v u : Vertex) → Some v ≡ Some u → v ≡ u
some_same v u e = cc

some_none : (v : Vertex) → None ≡ Some v → ⊥
some_none v e = cc

pub starts_in : (xs ys : List ℕ) (first : ℕ) (more : List ℕ) → 1 ≤ length xs → xs ++ ys ≡ first ∷ more → (zs : List ℕ) × (xs ≡ first ∷ zs)
starts_in [] ys first more long e = absurd (omega (arith, long))
starts_in (x ∷ xs) ys first more long e = (xs, ap (λ n. n ∷ xs) (head_same x first (xs ++ ys) more e))

pub merge_is : (op : Op) → is_merge op ≡ true → op ≡ MergeOp
merge_is (SourceOp source) is = (let e : false ≡ true = is in cc)
merge_is (ExecOp exec) is = (let e : false ≡ true = is in cc)
merge_is (CopyOp files) is = (let e : false ≡ true = is in cc)
merge_is (MakeDirsOp path) is = (let e : false ≡ true = is in cc)
merge_is MergeOp is = refl

pub no_merge : (op : Op) → is_merge op ≡ false → op ≢ MergeOp
no_merge op is merge = (let e : is_merge MergeOp ≡ false = ap is_merge (sym merge) ∙ is in let f : true ≡ false = e in cc)

-- the inputs of an operation that is no merge stay
pub flat_other : (vs : List Vertex) (op : Op) (inputs : List ℕ) → is_merge op ≡ false → flat_inputs vs op inputs ≡ inputs
flat_other vs (SourceOp source) inputs is = refl
flat_other vs (ExecOp exec) inputs is = refl
flat_other vs (CopyOp files) inputs is = refl
flat_other vs (MakeDirsOp path) inputs is = refl
flat_other vs MergeOp inputs is = (let e : true ≡ false = is in cc)

-- ---- one merge after another

module _ (vs : List Vertex) (are : AreVertices vs) where
  -- a merge has two inputs at least
  pub merge_has_two : (v : Vertex) (k : ℕ) → slice_get vs k ≡ Some v → v.op ≡ MergeOp → 2 ≤ length v.inputs
  merge_has_two v k is same =
      leb-true 2 (length v.inputs) (subst (λ (op : Op). IsTrue (is_well_formed_on op (length v.inputs))) same (are.well_formed k v is))

  -- what is spelled out for a vertex rests on what is for those before it
  as_same : (f g : ℕ → List ℕ) (id : ℕ) (op : Op) (inputs : List ℕ) → ((i : ℕ) → i < id → f i ≡ g i) → All (λ i. i < id) inputs
      → spelled_as f id op inputs ≡ spelled_as g id op inputs
  as_same f g id (SourceOp source) inputs same low = refl
  as_same f g id (ExecOp exec) inputs same low = refl
  as_same f g id (CopyOp files) inputs same low = refl
  as_same f g id (MakeDirsOp path) inputs same low = refl
  as_same f g id MergeOp [] same low = refl
  as_same f g id MergeOp (first ∷ rest) same low = ap (λ below. below ++ rest) (same first (All-head (λ i. i < id) first rest low))

  at_same : (f g : ℕ → List ℕ) (id : ℕ) (found : Option Vertex) → ((i : ℕ) → i < id → f i ≡ g i) → slice_get vs id ≡ found
      → spelled_at f id found ≡ spelled_at g id found
  at_same f g id None same is = refl
  at_same f g id (Some v) same is = as_same f g id v.op v.inputs same (are.after id v is)

  -- past a vertex's number the depth doesn't count
  to_same : (n m id : ℕ) → id < n → id < m → spelled_to vs n id ≡ spelled_to vs m id
  to_same zero m id low less = absurd (omega (arith, low))
  to_same (suc n) zero id low less = absurd (omega (arith, less))
  to_same (suc n) (suc m) id low less =
      at_same (spelled_to vs n) (spelled_to vs m) id (slice_get vs id)
      (λ i lt. to_same n m i (omega (arith, lt, low)) (omega (arith, lt, less))) refl

  to_step : (n id : ℕ) → id < n → spelled_to vs n id ≡ spelled_at (spelled_to vs n) id (slice_get vs id)
  to_step zero id low = absurd (omega (arith, low))
  to_step (suc n) id low =
      at_same (spelled_to vs n) (spelled_to vs (suc n)) id (slice_get vs id)
      (λ i lt. to_same n (suc n) i (omega (arith, lt, low)) (omega (arith, lt, low))) refl

  spelled_step : (id : ℕ) → id < length vs → spelled_out vs id ≡ spelled_at (spelled_out vs) id (slice_get vs id)
  unfolding spelled_out
  spelled_step id low = to_step (length vs) id low

  -- in a list that begins as this one does, the same is spelled out for what stands there
  front_to : (us : List Vertex) (at n id : ℕ) → ((k : ℕ) → k < at → slice_get us k ≡ slice_get vs k) → id < at → spelled_to us n id ≡ spelled_to vs n id
  front_to us at zero id same low = refl
  front_to us at (suc n) id same low =
      ap (spelled_at (spelled_to us n) id) (same id low)
      ∙ at_same (spelled_to us n) (spelled_to vs n) id (slice_get vs id) (λ i lt. front_to us at n i same (omega (arith, lt, low))) refl

  spelled_front : (us : List Vertex) (at id : ℕ) → ((k : ℕ) → k < at → slice_get us k ≡ slice_get vs k) → at ≤ length us → at ≤ length vs → id < at
      → spelled_out us id ≡ spelled_out vs id
  unfolding spelled_out
  spelled_front us at id same in_us in_vs low =
      front_to us at (length us) id same low ∙ to_same (length us) (length vs) id (omega (arith, low, in_us)) (omega (arith, low, in_vs))

  -- so inputs that stand there are flat likewise
  pub flat_front : (us : List Vertex) (at : ℕ) → ((k : ℕ) → k < at → slice_get us k ≡ slice_get vs k) → at ≤ length us → at ≤ length vs → (op : Op)
      (inputs : List ℕ) → All (λ i. i < at) inputs → flat_inputs us op inputs ≡ flat_inputs vs op inputs
  flat_front us at same in_us in_vs (SourceOp source) inputs low = refl
  flat_front us at same in_us in_vs (ExecOp exec) inputs low = refl
  flat_front us at same in_us in_vs (CopyOp files) inputs low = refl
  flat_front us at same in_us in_vs (MakeDirsOp path) inputs low = refl
  flat_front us at same in_us in_vs MergeOp [] low = refl
  flat_front us at same in_us in_vs MergeOp (first ∷ rest) low =
      ap (λ below. below ++ rest) (spelled_front us at first same in_us in_vs (All-head (λ i. i < at) first rest low))

  pub spelled_merge : (id : ℕ) (v : Vertex) → slice_get vs id ≡ Some v → v.op ≡ MergeOp → spelled_out vs id ≡ with_first (spelled_out vs) v.inputs
  spelled_merge id v is merge =
      spelled_step id (slice_get_within vs id v is)
      ∙ (ap (spelled_at (spelled_out vs) id) is ∙ ap (λ (op : Op). spelled_as (spelled_out vs) id op v.inputs) merge)

  as_itself : (id : ℕ) (op : Op) (inputs : List ℕ) → is_merge op ≡ false → spelled_as (spelled_out vs) id op inputs ≡ id ∷ []
  as_itself id (SourceOp source) inputs is = refl
  as_itself id (ExecOp exec) inputs is = refl
  as_itself id (CopyOp files) inputs is = refl
  as_itself id (MakeDirsOp path) inputs is = refl
  as_itself id MergeOp inputs is = (let e : true ≡ false = is in cc)

  pub spelled_itself : (id : ℕ) (v : Vertex) → slice_get vs id ≡ Some v → is_merge v.op ≡ false → spelled_out vs id ≡ id ∷ []
  spelled_itself id v is other =
      spelled_step id (slice_get_within vs id v is) ∙ (ap (spelled_at (spelled_out vs) id) is ∙ as_itself id v.op v.inputs other)

  -- so what holds of what is spelled out is shown from merge to merge
  module _ (P : ℕ → List ℕ → Type 0) (base : (id : ℕ) → ((v : Vertex) → slice_get vs id ≡ Some v → v.op ≢ MergeOp) → P id (id ∷ []))
      (step : (id first : ℕ) (v : Vertex) (rest : List ℕ) → slice_get vs id ≡ Some v → v.op ≡ MergeOp → v.inputs ≡ first ∷ rest → first < id
      → P first (spelled_out vs first) → P id (spelled_out vs first ++ rest)) where
    by_inputs : (id : ℕ) (v : Vertex) (inputs : List ℕ) → slice_get vs id ≡ Some v → v.op ≡ MergeOp → v.inputs ≡ inputs
        → ((i : ℕ) → i < id → P i (spelled_out vs i)) → P id (with_first (spelled_out vs) inputs)
    by_inputs id v [] is merge same before =
        absurd (let two = merge_has_two v id is merge in let none : length v.inputs ≡ 0 = ap length same in omega (arith, two, none))
    by_inputs id v (first ∷ rest) is merge same before =
        let low : first < id = All-head (λ i. i < id) first rest (subst (λ is. All (λ i. i < id) is) same (are.after id v is)) in
        step id first v rest is merge same low (before first low)

    by_op : (id : ℕ) (v : Vertex) (b : Bool) → slice_get vs id ≡ Some v → is_merge v.op ≡ b → ((i : ℕ) → i < id → P i (spelled_out vs i)) → P id (spelled_out vs id)
    by_op id v true is merge before =
        subst (P id) (sym (spelled_merge id v is (merge_is v.op merge))) (by_inputs id v v.inputs is (merge_is v.op merge) refl before)
    by_op id v false is other before =
        subst (P id) (sym (spelled_itself id v is other))
        (base id (λ u at. no_merge u.op (ap (λ (x : Vertex). is_merge x.op) (some_same u v (sym at ∙ is)) ∙ other)))

    by_depth : (n id : ℕ) (v : Vertex) → id < n → slice_get vs id ≡ Some v → P id (spelled_out vs id)
    by_depth zero id v low is = absurd (omega (arith, low))
    by_depth (suc n) id v low is =
        by_op id v (is_merge v.op) is refl
        (λ i lt. (let u = there_is vs i (let within = slice_get_within vs id v is in omega (arith, within, lt)) in
        by_depth n i u.0 (omega (arith, lt, low)) u.1))

    pub by_merges : (id : ℕ) (v : Vertex) → slice_get vs id ≡ Some v → P id (spelled_out vs id)
    by_merges id v is = by_depth (suc id) id v (omega arith) is

  -- ---- where it stands, and how long it is

  -- nothing in it stands after the vertex
  pub spelled_low : (id : ℕ) (v : Vertex) → slice_get vs id ≡ Some v → All (λ i. i ≤ id) (spelled_out vs id)
  spelled_low = by_merges (λ id ids. All (λ i. i ≤ id) ids)
      (λ id other. All-cons (λ i. i ≤ id) id [] (omega arith) (All-nil (λ i. i ≤ id)))
      (λ id first v rest is merge same low before.
      All-append (λ i. i ≤ id) (spelled_out vs first) rest
      (All-weaker (λ i. i ≤ first) (λ i. i ≤ id) (λ i le. omega (arith, le, low)) (spelled_out vs first) before)
      (All-weaker (λ i. i < id) (λ i. i ≤ id) (λ i lt. omega (arith, lt)) rest
      (All-tail (λ i. i < id) first rest (subst (λ is. All (λ i. i < id) is) same (are.after id v is)))))

  low_first : (id : ℕ) (inputs : List ℕ) → id ≤ length vs → All (λ i. i < id) inputs → All (λ i. i < id) (with_first (spelled_out vs) inputs)
  low_first id [] within low = low
  low_first id (first ∷ rest) within low =
      let less : first < id = All-head (λ i. i < id) first rest low in
      let v = there_is vs first (omega (arith, less, within)) in
      All-append (λ i. i < id) (spelled_out vs first) rest
      (All-weaker (λ i. i ≤ first) (λ i. i < id) (λ i le. omega (arith, le, less)) (spelled_out vs first) (spelled_low first v.0 v.1))
      (All-tail (λ i. i < id) first rest low)

  -- flat inputs stand before their vertex
  pub flat_low : (id : ℕ) (op : Op) (inputs : List ℕ) → id ≤ length vs → All (λ i. i < id) inputs → All (λ i. i < id) (flat_inputs vs op inputs)
  flat_low id (SourceOp source) inputs within low = low
  flat_low id (ExecOp exec) inputs within low = low
  flat_low id (CopyOp files) inputs within low = low
  flat_low id (MakeDirsOp path) inputs within low = low
  flat_low id MergeOp inputs within low = low_first id inputs within low

  pub spelled_long : (id : ℕ) (v : Vertex) → slice_get vs id ≡ Some v → 1 ≤ length (spelled_out vs id)
  spelled_long = by_merges (λ id ids. 1 ≤ length ids) (λ id other. omega arith)
      (λ id first v rest is merge same low before. (let both = length-append (spelled_out vs first) rest in omega (arith, both, before)))

  long_first : (inputs : List ℕ) → All (λ i. i < length vs) inputs → length inputs ≤ length (with_first (spelled_out vs) inputs)
  long_first [] low = omega arith
  long_first (first ∷ rest) low =
      let v = there_is vs first (All-head (λ i. i < length vs) first rest low) in
      let one = spelled_long first v.0 v.1 in
      let both = length-append (spelled_out vs first) rest in
      omega (arith, one, both)

  -- an operation is well formed on flat inputs
  pub flat_long : (op : Op) (inputs : List ℕ) → All (λ i. i < length vs) inputs → IsTrue (is_well_formed_on op (length inputs))
      → IsTrue (is_well_formed_on op (length (flat_inputs vs op inputs)))
  flat_long (SourceOp source) inputs low is = is
  flat_long (ExecOp exec) inputs low is = is
  flat_long (CopyOp files) inputs low is = is
  flat_long (MakeDirsOp path) inputs low is = is
  flat_long MergeOp inputs low is =
      let two : 2 ≤ length inputs = leb-true 2 (length inputs) is in
      let more = long_first inputs low in
      le-leb 2 (length (with_first (spelled_out vs) inputs)) (omega (arith, two, more))

  -- what stands first in it is no merge
  pub spelled_first : (id : ℕ) (v : Vertex) → slice_get vs id ≡ Some v → (first : ℕ) (more : List ℕ) (u : Vertex) → spelled_out vs id ≡ first ∷ more
      → slice_get vs first ≡ Some u → u.op ≢ MergeOp
  spelled_first = by_merges (λ id ids. (first : ℕ) (more : List ℕ) (u : Vertex) → ids ≡ first ∷ more → slice_get vs first ≡ Some u → u.op ≢ MergeOp)
      (λ id other first more u starts there. other u (ap (slice_get vs) (head_same id first [] more starts) ∙ there))
      (λ id next v rest is merge same low before first more u starts there.
      (let w = there_is vs next (let within = slice_get_within vs id v is in omega (arith, within, low)) in
      let begun = starts_in (spelled_out vs next) rest first more (spelled_long next w.0 w.1) starts in
      before first begun.0 u begun.1 there))

  -- ---- what is reached

  -- what is spelled out is reached
  pub spelled_reached : (id : ℕ) (v : Vertex) → slice_get vs id ≡ Some v → (i : ℕ) → Contains (spelled_out vs id) i → Reaches vs id i
  spelled_reached = by_merges (λ id ids. (i : ℕ) → Contains ids i → Reaches vs id i)
      (λ id other i among. elim (contains_cases id i [] among) [ inl same ↦ ([], sym same) | inr none ↦ absurd (contains_nil i none) ])
      (λ id first v rest is merge same low before i among.
      elim (Contains-append_cases (spelled_out vs first) rest i among) [
        | inl below ↦
            let path = before i below in
            (first ∷ path.0, (record { v = v; there = is; among = subst (λ ins. Contains ins first) (sym same) (contains_here first rest) }, path.1))
        | inr more ↦ (i ∷ [], (record { v = v; there = is; among = subst (λ ins. Contains ins i) (sym same) (contains_there first i rest more) }, refl))
      ])
