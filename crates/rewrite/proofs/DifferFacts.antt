-- Merges that have each a last input of its own.
use Rattle.std.proofs.Common.{◌≡◌, ◌<◌, ◌≤◌, ◌+◌, ℕ, Bool, true, false, List, Some, inl, inr, sym, ap, ◌∙◌, subst, arith, length}
use Rattle.std.specs.Prelude.{slice_get}
use Rattle.std.proofs.lemmas.Bool.{cases_lt, true≢false}
use Rattle.std.proofs.lemmas.Option.{slice_get_within}
use Rattle.llb.specs.declared.op.Op.TheVariants.{Merge as MergeOp}
use Rattle.llb.specs.declared.vertex.Vertex.{Vertex}
use Rattle.plain.specs.Marks.{is_marked}
use Rattle.reached.specs.Spelled.{is_merge}
use Rattle.rewrite.specs.PrivateFlat.{last_of, LastsDiffer, MarksLast}

-- the merges before a number differ, and the last input of each is marked
pub record DifferSoFar (vertices : List Vertex) (marks lasts : List Bool) (at : ℕ) : Type 0 where
  pub differ : (j k : ℕ) (v w : Vertex) → j < at → k < at → is_marked marks j ≡ true → is_marked marks k ≡ true → slice_get vertices j ≡ Some v
      → slice_get vertices k ≡ Some w → v.op ≡ MergeOp → w.op ≡ MergeOp → last_of v.inputs ≡ last_of w.inputs → j ≡ k
  pub noted : (j : ℕ) (v : Vertex) → j < at → is_marked marks j ≡ true → slice_get vertices j ≡ Some v → v.op ≡ MergeOp
      → is_marked lasts (last_of v.inputs) ≡ true

-- what is done with a vertex: if it is a merge that is marked, its last input wasn't marked and is; and what was marked is
pub record IsNoted (old new : List Bool) (vertex : Vertex) (mark : Bool) : Type 0 where
  pub last : mark ≡ true → is_merge vertex.op ≡ true → MarksLast old new vertex.inputs
  pub kept : (k : ℕ) → is_marked old k ≡ true → is_marked new k ≡ true

pub noted_merge : (old now new : List Bool) (vertex : Vertex) (mark : Bool) (lent : List ℕ) → new ≡ now → lent ≡ vertex.inputs → MarksLast old now lent
    → IsNoted old new vertex mark
noted_merge old now new vertex mark lent same inputs last =
    let marks : MarksLast old new vertex.inputs = subst (λ (ids : List ℕ). MarksLast old new ids) inputs
    (subst (λ (ms : List Bool). MarksLast old ms lent) (sym same) last) in
    record { last = λ marked merge. marks; kept = marks.kept }

pub noted_unmarked : (old new : List Bool) (vertex : Vertex) (mark : Bool) → new ≡ old → mark ≡ false → IsNoted old new vertex mark
noted_unmarked old new vertex mark same isnt = record {
  last = λ marked merge. absurd (true≢false (sym marked ∙ isnt));
  kept = λ k is. ap (λ (ms : List Bool). is_marked ms k) same ∙ is;
}

pub noted_other : (old new : List Bool) (vertex : Vertex) (mark : Bool) → new ≡ old → is_merge vertex.op ≡ false → IsNoted old new vertex mark
noted_other old new vertex mark same isnt = record {
  last = λ marked merge. absurd (true≢false (sym merge ∙ isnt));
  kept = λ k is. ap (λ (ms : List Bool). is_marked ms k) same ∙ is;
}

module _ (vertices : List Vertex) (marks old new : List Bool) (at : ℕ) (u : Vertex) (so_far : DifferSoFar vertices marks old at)
    (there : slice_get vertices at ≡ Some u) (noted : IsNoted old new u (is_marked marks at)) where
  -- what stands there is the vertex
  this : (k : ℕ) (v : Vertex) → k ≡ at → slice_get vertices k ≡ Some v → u ≡ v
  this k v same e = (let f : Some u ≡ Some v = sym there ∙ (ap (slice_get vertices) (sym same) ∙ e) in cc)

  merges : (v : Vertex) → v.op ≡ MergeOp → is_merge v.op ≡ true
  merges v op_is = ap is_merge op_is

  -- none before it has its last input
  others : (j k : ℕ) (v w : Vertex) → j < at → k ≡ at → is_marked marks j ≡ true → is_marked marks k ≡ true → slice_get vertices j ≡ Some v
      → slice_get vertices k ≡ Some w → v.op ≡ MergeOp → w.op ≡ MergeOp → last_of v.inputs ≡ last_of w.inputs → ⊥
  others j k v w low same at_j at_k there_j there_k v_merge w_merge lasts =
      let is : u ≡ w = this k w same there_k in
      let mark : is_marked marks at ≡ true = ap (is_marked marks) (sym same) ∙ at_k in
      let last = noted.last mark (ap (λ (x : Vertex). is_merge x.op) is ∙ merges w w_merge) in
      let before : is_marked old (last_of w.inputs) ≡ false = ap (λ (x : Vertex). is_marked old (last_of x.inputs)) (sym is) ∙ last.before in
      true≢false (sym (so_far.noted j v low at_j there_j v_merge) ∙ (ap (is_marked old) lasts ∙ before))

  pub differ_next : DifferSoFar vertices marks new (at + 1)
  differ_next = record {
    differ = λ j k v w low less at_j at_k there_j there_k v_merge w_merge lasts. elim (cases_lt j at) [
      | inl j_before ↦ elim (cases_lt k at) [
        | inl k_before ↦ so_far.differ j k v w j_before k_before at_j at_k there_j there_k v_merge w_merge lasts
        | inr k_past ↦ absurd (others j k v w j_before (omega (arith, less, k_past)) at_j at_k there_j there_k v_merge w_merge lasts)
      ]
      | inr j_past ↦ elim (cases_lt k at) [
        | inl k_before ↦ absurd (others k j w v k_before (omega (arith, low, j_past)) at_k at_j there_k there_j w_merge v_merge (sym lasts))
        | inr k_past ↦ omega (arith, low, less, j_past, k_past)
      ]
    ];
    noted = λ j v low at_j there_j op_is. elim (cases_lt j at) [
      | inl before ↦ noted.kept (last_of v.inputs) (so_far.noted j v before at_j there_j op_is)
      | inr past ↦
          let same : j ≡ at = omega (arith, low, past) in
          let is : u ≡ v = this j v same there_j in
          let mark : is_marked marks at ≡ true = ap (is_marked marks) (sym same) ∙ at_j in
          let last = noted.last mark (ap (λ (x : Vertex). is_merge x.op) is ∙ merges v op_is) in
          ap (λ (x : Vertex). is_marked new (last_of x.inputs)) (sym is) ∙ last.now
    ];
  }

pub all_differ : (vertices : List Vertex) (marks lasts : List Bool) (at : ℕ) → length vertices ≤ at → DifferSoFar vertices marks lasts at
    → LastsDiffer vertices marks
all_differ vertices marks lasts at over so_far j k v w at_j at_k there_j there_k v_merge w_merge same =
    let j_in = slice_get_within vertices j v there_j in
    let k_in = slice_get_within vertices k w there_k in
    so_far.differ j k v w (omega (arith, over, j_in)) (omega (arith, over, k_in)) at_j at_k there_j there_k v_merge w_merge same
