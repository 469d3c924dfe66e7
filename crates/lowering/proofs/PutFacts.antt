-- What adding a vertex for a line does to a graph.
use Rattle.std.proofs.Common.{◌≡◌, ◌⊎◌, ◌↔◌, inl, inr, ◌<◌, ◌+◌, ℕ, List, [], ◌∷◌, ◌++◌, length, Ok, refl, sym, ap, ◌∙◌, subst, arith, length-append}
use Rattle.std.specs.Prelude.{Contains, slice_index_or}
use Rattle.std.proofs.lemmas.Bool.{cases_eq, cases_lt}
use Rattle.std.proofs.lemmas.Option.{slice_get_within}
use Rattle.std.proofs.lemmas.List.{get_or-set_same, get_or-set_other, get_or_append_left, get_or-append-add, get_or_past}
use Rattle.llb.specs.declared.op.Op.{Op}
use Rattle.llb.specs.declared.vertex.Vertex.{Vertex}
use Rattle.llb.specs.Graph.{GraphValue, IsGraph, Adds, IsFound, IsAppended}
use Rattle.llb.specs.Places.{with_line, places_with}
use Rattle.llb.proofs.GraphLaws.{added_grows, added_stands}
use Rattle.lowering.specs.Means.{lines_at}
use Rattle.lowering.specs.Vertices.{HasPlace, AreNumbered}
use Rattle.lowering.specs.PrivateGrowth.{Grows, IsPut}
use Rattle.lowering.proofs.Rooms.{uses_found, uses_appended}
use Rattle.llb.proofs.LineFacts.{line_there, line_kept, line_only, contains_here, contains_cases, contains_nil}

-- one place
one_place : (line id l k : ℕ) → HasPlace ((line, id) ∷ []) l k → (l ≡ line) × (k ≡ id)
one_place line id l k h = elim (contains_cases {X = ℕ × ℕ} (line, id) (l, k) [] h) [
  | inl same ↦ (ap (λ (p : ℕ × ℕ). p.0) same, ap (λ (p : ℕ × ℕ). p.1) same)
  | inr none ↦ absurd (contains_nil {X = ℕ × ℕ} (l, k) none)
]

is_place : (line id l k : ℕ) → l ≡ line → k ≡ id → HasPlace ((line, id) ∷ []) l k
is_place line id l k e f = rw (e, f) (contains_here {X = ℕ × ℕ} (line, id) [])

-- where the lines of the vertex are the old ones and this line, and those of all others are the old ones
grows_by : (old new : GraphValue) (line id : ℕ) → (more : List Vertex) × (new.vertices ≡ old.vertices ++ more)
    → ((l : ℕ) → Contains (lines_at new id) l ↔ (Contains (lines_at old id) l ⊎ (l ≡ line)))
    → ((k : ℕ) → (k ≡ id → ⊥) → lines_at new k ≡ lines_at old k) → ((k : ℕ) → k < length new.vertices → (k < length old.vertices) ⊎ (k ≡ id))
    → AreNumbered (length old.vertices) ((line, id) ∷ []) (length new.vertices) → Grows old new ((line, id) ∷ [])
grows_by old new line id front here there more order = record {
  front = front;
  lines = λ k l. elim (cases_eq k id) [
    | inl same ↦ subst (λ n. Contains (lines_at new n) l ↔ (Contains (lines_at old n) l ⊎ HasPlace ((line, id) ∷ []) l n)) (sym same) (
      λ h. elim ((here l).0 h) [ inl before ↦ inl before | inr now ↦ inr (is_place line id l id now refl) ],
      λ cases. elim cases [ inl before ↦ (here l).1 (inl before) | inr now ↦ (here l).1 (inr (one_place line id l id now).0) ],
    )
    | inr ne ↦ (
      λ h. inl (subst (λ ls. Contains ls l) (there k ne) h),
      λ cases. elim cases [ inl before ↦ subst (λ ls. Contains ls l) (sym (there k ne)) before | inr now ↦ absurd (ne (one_place line id l k now).1) ],
    )
  ];
  more = λ k lt. elim (more k lt) [ inl before ↦ inl before | inr same ↦ inr (line, is_place line id line k refl same) ];
  order = order;
}

-- an equal vertex stood there
found_put : (old new : GraphValue) (vertex : Vertex) (line id : ℕ) → IsGraph old → IsFound old new vertex (line ∷ []) id
    → IsPut old new vertex.op vertex.inputs line id
found_put old new vertex line id is found =
    let within : id < length old.vertices = slice_get_within old.vertices id vertex found.stood in
    let beside : id < length old.places = omega (arith, is.beside, within) in
    let vertices : new.vertices ≡ old.vertices = ap (λ g. g.vertices) found.added in
    let places : new.places ≡ places_with (line ∷ []) id old.places = ap (λ g. g.places) found.added in
    let here : lines_at new id ≡ with_line line (lines_at old id) =
    ap (λ ps. slice_index_or ps id []) places ∙ get_or-set_same old.places id (with_line line (lines_at old id)) [] beside in
    record {
      is = added_stands old new vertex (line ∷ []) id (inl found);
      grows = grows_by old new line id (added_grows old new vertex (line ∷ []) id (inl found))
          (λ l. (
            λ h. line_only line l (lines_at old id) (subst (λ ls. Contains ls l) here h),
            λ cases. subst (λ ls. Contains ls l) (sym here) (elim cases [
              | inl before ↦ line_kept line l (lines_at old id) before
              | inr now ↦ rw now (line_there line (lines_at old id))
            ]),
          ))
          (λ k ne. ap (λ ps. slice_index_or ps k []) places ∙ get_or-set_other old.places id k (with_line line (lines_at old id)) [] ne)
          (λ k lt. inl (omega (arith, ap length vertices, lt))) (inl (within, ap length vertices));
      uses = uses_found old new vertex (line ∷ []) id found;
    }

-- a vertex came
appended_put : (old new : GraphValue) (vertex : Vertex) (line id : ℕ) → IsGraph old → IsAppended old new vertex (line ∷ []) id
    → IsPut old new vertex.op vertex.inputs line id
appended_put old new vertex line id is appended =
    let last : id ≡ length old.vertices = appended.last in
    let vertices : new.vertices ≡ old.vertices ++ vertex ∷ [] = ap (λ g. g.vertices) appended.added in
    let places : new.places ≡ old.places ++ (line ∷ []) ∷ [] = ap (λ g. g.places) appended.added in
    let long : length new.vertices ≡ length old.vertices + 1 = ap length vertices ∙ length-append old.vertices (vertex ∷ []) in
    let long_places : length new.places ≡ length old.places + 1 = ap length places ∙ length-append old.places ((line ∷ []) ∷ []) in
    let place : length old.places + 0 ≡ id = omega (arith, is.beside) in
    let none : lines_at old id ≡ [] = get_or_past old.places id [] (omega (arith, is.beside)) in
    let here : lines_at new id ≡ line ∷ [] =
    ap (λ ps. slice_index_or ps id []) places
    ∙ subst (λ n. slice_index_or (old.places ++ (line ∷ []) ∷ []) n [] ≡ line ∷ []) place (get_or-append-add old.places ((line ∷ []) ∷ []) 0 []) in
    record {
      is = added_stands old new vertex (line ∷ []) id (inr appended);
      grows = grows_by old new line id (added_grows old new vertex (line ∷ []) id (inr appended))
          (λ l. (
            λ h. elim (contains_cases line l [] (subst (λ ls. Contains ls l) here h)) [ inl now ↦ inr now | inr gone ↦ absurd (contains_nil l gone) ],
            λ cases. elim cases [
              | inl before ↦ absurd (contains_nil l (subst (λ ls. Contains ls l) none before))
              | inr now ↦ rw (here, now) (contains_here line [])
            ],
          ))
          (λ k ne. elim (cases_lt k (length old.places)) [
            | inl lt ↦ ap (λ ps. slice_index_or ps k []) places ∙ get_or_append_left old.places ((line ∷ []) ∷ []) [] k lt
            | inr past ↦ get_or_past new.places k [] (omega (arith, past, ne, is.beside, long_places)) ∙ sym (get_or_past old.places k [] past)
          ])
          (λ k lt. elim (cases_lt k (length old.vertices)) [ inl before ↦ inl before | inr past ↦ inr (omega (arith, lt, past)) ])
          (inr (last, long));
      uses = uses_appended old new vertex (line ∷ []) id appended;
    }

pub added_put : (old new : GraphValue) (vertex : Vertex) (line id : ℕ) → IsGraph old → Adds old new vertex (line ∷ []) (Ok id)
    → IsPut old new vertex.op vertex.inputs line id
added_put old new vertex line id is (inl found) = found_put old new vertex line id is found
added_put old new vertex line id is (inr appended) = appended_put old new vertex line id is appended

pub put_ok : (old new : GraphValue) (op : Op) (inputs : List ℕ) (line id : ℕ) → IsGraph old
    → Adds old new (record { op = op; inputs = inputs }) (line ∷ []) (Ok id) → IsPut old new op inputs line id
put_ok old new op inputs line id is adds = added_put old new (record { op = op; inputs = inputs }) line id is adds
