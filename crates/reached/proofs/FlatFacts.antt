-- Vertices on their flat inputs.
use Rattle.std.proofs.Common.{◌≡◌, inl, inr, ◌<◌, ◌≤◌, ◌-◌, ℕ, zero, suc, Bool, true, false, List, [], ◌∷◌, length, Option, Some, None, refl, sym, ap, ◌∙◌, subst, arith}
use Rattle.std.proofs.Common.{take}
use Rattle.std.specs.Prelude.{Contains, slice_get, slice_set, slice_index_or}
use Rattle.std.specs.List.{All}
use Rattle.std.specs.Option.{option_map}
use Rattle.std.proofs.Math.ListN.{length-set}
use Rattle.std.proofs.lemmas.Bool.{cases_eq, true≢false}
use Rattle.std.proofs.lemmas.List.{length-map, length-take-le}
use Rattle.std.proofs.lemmas.List.Elements.{All-contains}
use Rattle.std.proofs.lemmas.Option.{slice_get_within, slice_get_read, slice_get-map}
use Rattle.plain.specs.Marks.{is_marked}
use Rattle.plain.specs.PrivateMarks.{MarksMore}
use Rattle.plain.proofs.MarkFacts.{MarkedFrom, unmarked_step, marked_all}
use Rattle.llb.specs.declared.op.Op.{Op}
use Rattle.llb.specs.declared.vertex.Vertex.{Vertex}
use Rattle.llb.specs.Graph.{IsAfterInputs, AreVertices}
use Rattle.llb.specs.Reach.{HasInput}
use Rattle.reached.specs.Reached.{AreFlattened}
use Rattle.reached.specs.Spelled.{flat_inputs, flat_vertex, flat_vertices}
use Rattle.reached.proofs.MarkFacts.{reached, target_marked, inputs_marked}
use Rattle.reached.proofs.SpellingFacts.{flat_low, flat_front}

pub flat_there : (vs : List Vertex) (k : ℕ) (v : Vertex) → slice_get vs k ≡ Some v → slice_get (flat_vertices vs) k ≡ Some (flat_vertex vs v)
flat_there vs k v is = slice_get-map (flat_vertex vs) vs k ∙ ap (option_map (flat_vertex vs)) is

some_of : (o : Option Vertex) (f : Vertex → Vertex) (u : Vertex) → option_map f o ≡ Some u → (v : Vertex) × (o ≡ Some v) × (u ≡ f v)
some_of None f u is = absurd cc
some_of (Some v) f u is = (v, refl, cc)

pub flat_back : (vs : List Vertex) (k : ℕ) (u : Vertex) → slice_get (flat_vertices vs) k ≡ Some u → (v : Vertex) × (slice_get vs k ≡ Some v) × (u ≡ flat_vertex vs v)
flat_back vs k u is = some_of (slice_get vs k) (flat_vertex vs) u (sym (slice_get-map (flat_vertex vs) vs k) ∙ is)

pub as_many : (vs : List Vertex) → length (flat_vertices vs) ≡ length vs
as_many vs = length-map vs (flat_vertex vs)

-- each stands after its inputs
pub flat_after : (vs : List Vertex) → AreVertices vs → (k : ℕ) (u : Vertex) → slice_get (flat_vertices vs) k ≡ Some u → IsAfterInputs k u
flat_after vs are k u is =
    let v = flat_back vs k u is in
    let within = slice_get_within vs k v.0 v.1 in
    subst (IsAfterInputs k) (sym v.2) (flat_low vs are k v.0.op v.0.inputs (omega (arith, within)) (are.after k v.0 v.1))

-- ---- put on flat inputs from the last one on

-- the vertices before a number, by themselves
pub record IsFront (vs : List Vertex) (at : ℕ) (us : List Vertex) : Type 0 where
  pub long : length us ≡ at
  pub within : at ≤ length vs
  pub same : (k : ℕ) → k < at → slice_get us k ≡ slice_get vs k

pub front_vertices : (vs us : List Vertex) (at : ℕ) → AreVertices vs → IsFront vs at us → AreVertices us
front_vertices vs us at are front = record {
  few = (let few = are.few in omega (arith, few, front.long, front.within));
  once = λ j k v one other. are.once j k v (back j v one) (back k v other);
  after = λ k v there. are.after k v (back k v there);
  well_formed = λ k v there. are.well_formed k v (back k v there);
}
  where
    back : (k : ℕ) (v : Vertex) → slice_get us k ≡ Some v → slice_get vs k ≡ Some v
    back k v there = sym (front.same k (let within = slice_get_within us k v there in omega (arith, within, front.long))) ∙ there

-- the vertices from a number on are dealt with, and those before it are as they were
pub record FlatFrom (vs : List Vertex) (target at : ℕ) (marks : List Bool) (new : List Vertex) : Type 0 where
  pub marked : MarkedFrom (HasInput (flat_vertices vs)) (length (flat_vertices vs)) target at marks
  pub long : length new ≡ length vs
  pub before : (k : ℕ) → k < at → slice_get new k ≡ slice_get vs k
  pub from : (k : ℕ) (v : Vertex) → at ≤ k → is_marked marks k ≡ true → slice_get vs k ≡ Some v → slice_get new k ≡ Some (flat_vertex vs v)

pub flat_begun : (vs : List Vertex) (target at : ℕ) (none marks : List Bool) (new : List Vertex) → length none ≡ length vs
    → ((k : ℕ) → is_marked none k ≡ false) → target < length vs → marks ≡ slice_set none target true → new ≡ vs → at ≡ length new
    → FlatFrom vs target at marks new
flat_begun vs target at none marks new long unmarked lt is same from_end =
    let all = as_many vs in
    let end : at ≡ length vs = from_end ∙ ap length same in
    record {
      marked = target_marked (flat_vertices vs) target none marks at (long ∙ sym all) unmarked (omega (arith, all, lt)) is (end ∙ sym all);
      long = ap length same;
      before = λ k low. ap (λ us. slice_get us k) same;
      from = λ k v past marked there. (let within = slice_get_within vs k v there in absurd (omega (arith, within, past, end)));
    }

get_front : (xs : List Vertex) (n k : ℕ) → k < n → slice_get (take n xs) k ≡ slice_get xs k
get_front xs zero k lt = absurd (omega (arith, lt))
get_front [] (suc n) k lt = refl
get_front (x ∷ xs) (suc n) zero lt = refl
get_front (x ∷ xs) (suc n) (suc k) lt = get_front xs n k (omega (arith, lt))

-- those before the next number are as they were
pub flat_before : (vs : List Vertex) (target at next : ℕ) (marks : List Bool) (new us lent : List Vertex) → FlatFrom vs target at marks new → 0 < at
    → next ≡ at - 1 → lent ≡ new → us ≡ take next lent → IsFront vs next us
flat_before vs target at next marks new us lent so_far pos is lends taken =
    let all = as_many vs in
    let cut : us ≡ take next new = taken ∙ ap (take next) lends in
    let within : next ≤ length vs = (let w = so_far.marked.within in omega (arith, is, w, all)) in
    record {
      long = ap length cut ∙ length-take-le next new (omega (arith, within, so_far.long));
      within = within;
      same = λ k low. ap (λ xs. slice_get xs k) cut ∙ (get_front new next k low ∙ so_far.before k (omega (arith, low, is, pos)));
    }

-- and so is the one at it
pub flat_inside : (vs : List Vertex) (target at next : ℕ) (marks : List Bool) (new : List Vertex) → FlatFrom vs target at marks new → 0 < at
    → next ≡ at - 1 → next < length new
flat_inside vs target at next marks new so_far pos is =
    let all = as_many vs in
    let w = so_far.marked.within in
    omega (arith, is, pos, w, all, so_far.long)

pub flat_here : (vs : List Vertex) (target at next : ℕ) (marks : List Bool) (new : List Vertex) (v : Vertex) → FlatFrom vs target at marks new → 0 < at
    → next ≡ at - 1 → v ≡ slice_index_or new next v → slice_get vs next ≡ Some v
flat_here vs target at next marks new v so_far pos is read =
    sym (so_far.before next (omega (arith, is, pos)))
    ∙ slice_get_read new (length new) next v refl (flat_inside vs target at next marks new so_far pos is) read

pub flat_alike : (vs us : List Vertex) (next : ℕ) (v : Vertex) → AreVertices vs → IsFront vs next us → slice_get vs next ≡ Some v
    → flat_inputs us v.op v.inputs ≡ flat_inputs vs v.op v.inputs
flat_alike vs us next v are front there =
    flat_front vs are us next front.same (omega (arith, front.long)) front.within v.op v.inputs (are.after next v there)

abbrev on_inputs : Op → List ℕ → Vertex
on_inputs op inputs = record { op = op; inputs = inputs }

set_here : (vs : List Vertex) (at : ℕ) (v : Vertex) → at < length vs → slice_get (slice_set vs at v) at ≡ Some v
set_here [] at v lt = absurd (omega (arith, lt))
set_here (u ∷ us) zero v lt = refl
set_here (u ∷ us) (suc at) v lt = set_here us at v (omega (arith, lt))

set_there : (vs : List Vertex) (at k : ℕ) (v : Vertex) → (k ≡ at → ⊥) → slice_get (slice_set vs at v) k ≡ slice_get vs k
set_there [] at k v ne = refl
set_there (u ∷ us) zero zero v ne = absurd (ne refl)
set_there (u ∷ us) zero (suc k) v ne = refl
set_there (u ∷ us) (suc at) zero v ne = refl
set_there (u ∷ us) (suc at) (suc k) v ne = set_there us at k v (λ same. ne (ap (λ n. suc n) same))

-- a marked vertex is put on its flat inputs, which are marked
pub flat_put : (vs : List Vertex) (target at next : ℕ) (old marks : List Bool) (new newer us : List Vertex) (v here : Vertex) (ids lent : List ℕ)
    → AreVertices vs → FlatFrom vs target at old new → 0 < at → next ≡ at - 1 → slice_get vs next ≡ Some v → slice_get vs next ≡ Some here
    → is_marked old next ≡ true → IsFront vs next us → ids ≡ flat_inputs us v.op v.inputs → lent ≡ ids → MarksMore old marks (Contains lent)
    → newer ≡ slice_set new next (record { op = here.op; inputs = ids }) → FlatFrom vs target next marks newer
flat_put vs target at next old marks new newer us v here ids lent are so_far pos is there there_here marked front found lends more now = record {
  marked = inputs_marked (flat_vertices vs) target at next (flat_vertex vs v) old marks lent (flat_after vs are) so_far.marked pos is
      flat marked (lends ∙ same_inputs) more;
  long = ap length now ∙ (length-set new next put ∙ so_far.long);
  before = λ k less. others k (λ same. omega (arith, same, less)) ∙ so_far.before k (omega (arith, less, is, pos));
  from = λ k u past is_now there_u. elim (cases_eq k next) [
    | inl same ↦
        let within = slice_get_within vs next v there in
        let first : Some here ≡ Some v = sym there_here ∙ there in
        let one : Some v ≡ Some u = sym there ∙ (ap (slice_get vs) (sym same) ∙ there_u) in
        ap (slice_get newer) same
        ∙ (ap (λ xs. slice_get xs next) now
        ∙ (set_here new next put (omega (arith, within, so_far.long))
        ∙ (ap (option_map (λ (x : Vertex). on_inputs x.op ids)) first
        ∙ (ap (λ xs. Some (on_inputs v.op xs)) same_inputs ∙ ap (option_map (flat_vertex vs)) one))))
    | inr ne ↦ others k ne ∙ so_far.from k u (omega (arith, past, ne, is)) (marked_before k past is_now) there_u
  ];
}
  where
    put : Vertex
    put = on_inputs here.op ids

    flat : slice_get (flat_vertices vs) next ≡ Some (flat_vertex vs v)
    flat = flat_there vs next v there

    same_inputs : ids ≡ flat_inputs vs v.op v.inputs
    same_inputs = found ∙ flat_alike vs us next v are front there

    others : (k : ℕ) → (k ≡ next → ⊥) → slice_get newer k ≡ slice_get new k
    others k ne = ap (λ xs. slice_get xs k) now ∙ set_there new next k put ne

    marked_before : (k : ℕ) → next ≤ k → is_marked marks k ≡ true → is_marked old k ≡ true
    marked_before k past is_now = elim (more.only k is_now) [
      | inl before ↦ before
      | inr among ↦
          let low : All (λ i. i < next) (flat_vertex vs v).inputs = flat_after vs are next (flat_vertex vs v) flat in
          let less = All-contains (λ i. i < next) lent k (subst (All (λ i. i < next)) (sym (lends ∙ same_inputs)) low) among in
          absurd (omega (arith, less, past))
    ]

-- one that isn't marked is left
pub flat_left : (vs : List Vertex) (target at next : ℕ) (marks : List Bool) (new : List Vertex) → FlatFrom vs target at marks new → 0 < at → next ≡ at - 1
    → is_marked marks next ≡ false → FlatFrom vs target next marks new
flat_left vs target at next marks new so_far pos is unmarked = record {
  marked = unmarked_step (HasInput (flat_vertices vs)) (length (flat_vertices vs)) target at next marks so_far.marked pos is unmarked;
  long = so_far.long;
  before = λ k less. so_far.before k (omega (arith, less, is, pos));
  from = λ k v past marked there. elim (cases_eq k next) [
    | inl same ↦ absurd (true≢false (sym marked ∙ (ap (is_marked marks) same ∙ unmarked)))
    | inr ne ↦ so_far.from k v (omega (arith, past, ne, is)) marked there
  ];
}

pub flat_done : (vs : List Vertex) (target at : ℕ) (marks : List Bool) (new : List Vertex) → FlatFrom vs target at marks new → at ≤ 0
    → AreFlattened vs target marks new
flat_done vs target at marks new so_far over = (
  reached (flat_vertices vs) target marks (marked_all (HasInput (flat_vertices vs)) (length (flat_vertices vs)) target at marks so_far.marked over),
  record { long = so_far.long; there = λ k v. so_far.from k v (omega (arith, over)) },
)
