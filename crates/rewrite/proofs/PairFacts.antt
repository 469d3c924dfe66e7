-- Where all merges have two inputs, what is spelled out for a vertex tells which one it is.
use Rattle.std.proofs.Common.{◌≡◌, ◌<◌, ◌+◌, ℕ, zero, suc, Bool, true, false, List, [], ◌∷◌, ◌++◌, Some, not, refl, sym, ap, ap₂, ◌∙◌, subst, arith, length, length-append}
use Rattle.std.specs.Prelude.{◌==◌, ◌||◌, get_or, slice_get}
use Rattle.std.specs.List.{list_all, All}
use Rattle.std.proofs.lemmas.Bool.{eqb-true}
use Rattle.std.proofs.lemmas.List.{append_cancel_right}
use Rattle.std.proofs.lemmas.List.Elements.{All-head}
use Rattle.std.proofs.lemmas.List.Sums.{AllPass-from_list_all}
use Rattle.std.proofs.lemmas.Option.{get_or_from_slice_get, slice_get_within}
use Rattle.llb.specs.declared.op.Op.{Op}
use Rattle.llb.specs.declared.op.Op.TheVariants.{Merge as MergeOp}
use Rattle.llb.specs.declared.vertex.Vertex.{Vertex}
use Rattle.llb.specs.Graph.{AreVertices}
use Rattle.reached.specs.Spelled.{with_first, spelled_out, flat_inputs, is_merge}
use Rattle.reached.proofs.SpellingFacts.{there_is, merge_is, spelled_long, spelled_merge, spelled_itself}
use Rattle.rewrite.specs.PrivateFlat.{is_pair}

abbrev vertex_of : Op → List ℕ → Vertex
vertex_of op inputs = record { op = op; inputs = inputs }

pair_two : (vertex : Vertex) → vertex.op ≡ MergeOp → is_pair vertex ≡ true → length vertex.inputs ≡ 2
pair_two vertex merge is =
    let two : (not (is_merge MergeOp) || length vertex.inputs == 2) ≡ true = ap (λ (op : Op). not (is_merge op) || length vertex.inputs == 2) (sym merge) ∙ is in
    eqb-true (length vertex.inputs) 2 two

two_in : (ids : List ℕ) → length ids ≡ 2 → (a : ℕ) × (b : ℕ) × (ids ≡ a ∷ b ∷ [])
two_in [] long = absurd (omega (arith, long))
two_in (a ∷ []) long = absurd (omega (arith, long))
two_in (a ∷ b ∷ []) long = (a, b, refl)
two_in (a ∷ b ∷ c ∷ rest) long = absurd (omega (arith, long))

last_same : (xs ys : List ℕ) (a b : ℕ) → xs ++ a ∷ [] ≡ ys ++ b ∷ [] → length xs ≡ length ys → a ≡ b
last_same [] [] a b same long = cc
last_same [] (y ∷ ys) a b same long = absurd (omega (arith, long))
last_same (x ∷ xs) [] a b same long = absurd (omega (arith, long))
last_same (x ∷ xs) (y ∷ ys) a b same long =
    let rest : xs ++ a ∷ [] ≡ ys ++ b ∷ [] = cc in
    last_same xs ys a b rest (omega (arith, long))

-- lists with one more element each are equal only if their fronts and these elements are
both_same : (xs ys : List ℕ) (a b : ℕ) → xs ++ a ∷ [] ≡ ys ++ b ∷ [] → (xs ≡ ys) × (a ≡ b)
both_same xs ys a b same =
    let one = length-append xs (a ∷ []) in
    let other = length-append ys (b ∷ []) in
    let long = ap length same in
    let is : a ≡ b = last_same xs ys a b same (omega (arith, one, other, long)) in
    (append_cancel_right xs ys (a ∷ []) (same ∙ ap (λ (n : ℕ). ys ++ n ∷ []) (sym is)), is)

module _ (vs : List Vertex) (are : AreVertices vs) (pairs : list_all is_pair vs ≡ true) where
  -- a merge is one of two vertices before it
  record Pair (id : ℕ) (v : Vertex) : Type 0 where
    first : ℕ
    second : ℕ
    inputs : v.inputs ≡ first ∷ second ∷ []
    low : first < id
    spelled : spelled_out vs id ≡ spelled_out vs first ++ second ∷ []

  pair : (id : ℕ) (v : Vertex) → slice_get vs id ≡ Some v → v.op ≡ MergeOp → Pair id v
  pair id v there merge =
      let passed : is_pair (get_or vs id v) ≡ true = AllPass-from_list_all is_pair vs pairs id v (slice_get_within vs id v there) in
      let is : is_pair v ≡ true = sym (ap is_pair (get_or_from_slice_get vs id v v there)) ∙ passed in
      let two = two_in v.inputs (pair_two v merge is) in
      record {
        first = two.0;
        second = two.1;
        inputs = two.2;
        low = All-head (λ i. i < id) two.0 (two.1 ∷ []) (subst (λ is. All (λ i. i < id) is) two.2 (are.after id v there));
        spelled = spelled_merge vs are id v there merge ∙ ap (with_first (spelled_out vs)) two.2;
      }

  -- what is spelled out for a merge is longer than what is for another vertex
  longer : (j k : ℕ) (v w : Vertex) → slice_get vs j ≡ Some v → slice_get vs k ≡ Some w → v.op ≡ MergeOp → is_merge w.op ≡ false
      → spelled_out vs j ≡ spelled_out vs k → ⊥
  longer j k v w there_j there_k merge other same =
      let p = pair j v there_j merge in
      let below = there_is vs p.first (let lt = slice_get_within vs j v there_j in omega (arith, lt, p.low)) in
      let some = spelled_long vs are p.first below.0 below.1 in
      let both = length-append (spelled_out vs p.first) (p.second ∷ []) in
      let many = ap length (sym p.spelled ∙ same ∙ spelled_itself vs are k w there_k other) in
      omega (arith, some, both, many)

  -- so no two vertices are spelled out as the same
  one_spelled : (n j k : ℕ) (v w : Vertex) (b c : Bool) → j < n → k < n → slice_get vs j ≡ Some v → slice_get vs k ≡ Some w → is_merge v.op ≡ b → is_merge w.op ≡ c
      → spelled_out vs j ≡ spelled_out vs k → j ≡ k
  one_spelled zero j k v w b c low less there_j there_k v_is w_is same = absurd (omega (arith, low))
  one_spelled (suc n) j k v w false false low less there_j there_k v_is w_is same =
      let one : j ∷ [] ≡ k ∷ [] = sym (spelled_itself vs are j v there_j v_is) ∙ same ∙ spelled_itself vs are k w there_k w_is in
      cc
  one_spelled (suc n) j k v w true false low less there_j there_k v_is w_is same = absurd (longer j k v w there_j there_k (merge_is v.op v_is) w_is same)
  one_spelled (suc n) j k v w false true low less there_j there_k v_is w_is same = absurd (longer k j w v there_k there_j (merge_is w.op w_is) v_is (sym same))
  one_spelled (suc n) j k v w true true low less there_j there_k v_is w_is same =
      let p = pair j v there_j (merge_is v.op v_is) in
      let q = pair k w there_k (merge_is w.op w_is) in
      let both = both_same (spelled_out vs p.first) (spelled_out vs q.first) p.second q.second (sym p.spelled ∙ same ∙ q.spelled) in
      let x = there_is vs p.first (let lt = slice_get_within vs j v there_j in omega (arith, lt, p.low)) in
      let y = there_is vs q.first (let lt = slice_get_within vs k w there_k in omega (arith, lt, q.low)) in
      let first : p.first ≡ q.first =
      one_spelled n p.first q.first x.0 y.0 (is_merge x.0.op) (is_merge y.0.op) (omega (arith, p.low, low)) (omega (arith, q.low, less)) x.1 y.1 refl refl both.0 in
      let inputs : v.inputs ≡ w.inputs = p.inputs ∙ ap₂ (λ (a b : ℕ). a ∷ b ∷ []) first both.1 ∙ sym q.inputs in
      let ops : v.op ≡ w.op = merge_is v.op v_is ∙ sym (merge_is w.op w_is) in
      are.once j k w (there_j ∙ ap Some (ap₂ vertex_of ops inputs)) there_k

  -- and no two merges have the same flat inputs
  pub pairs_differ : (j k : ℕ) (v w : Vertex) → slice_get vs j ≡ Some v → slice_get vs k ≡ Some w → v.op ≡ MergeOp → w.op ≡ MergeOp
      → flat_inputs vs v.op v.inputs ≡ flat_inputs vs w.op w.inputs → j ≡ k
  pairs_differ j k v w there_j there_k v_merge w_merge same =
      let spelled : (i : ℕ) (u : Vertex) → slice_get vs i ≡ Some u → u.op ≡ MergeOp → spelled_out vs i ≡ flat_inputs vs u.op u.inputs =
      λ i u there merge. spelled_merge vs are i u there merge ∙ ap (λ (op : Op). flat_inputs vs op u.inputs) (sym merge) in
      one_spelled (suc (j + k)) j k v w true true (omega arith) (omega arith) there_j there_k (ap is_merge v_merge) (ap is_merge w_merge)
      (spelled j v there_j v_merge ∙ same ∙ sym (spelled k w there_k w_merge))
