-- Adding keeps a graph a graph.
use Rattle.std.specs.Prelude.{◌≡◌, ◌<◌, ℕ, zero, suc, ◌⊎◌, Some, List, [], ◌∷◌, ◌++◌, IsTrue, length, slice_get, slice_set, slice_index_or, refl}
use Rattle.std.proofs.Common.{arith, ap, sym, ◌∙◌, subst, inl, inr, length-append, length-set}
use Rattle.std.proofs.lemmas.Option.{slice_get-get_or, slice_get_within}
use Rattle.llb.specs.declared.vertex.Vertex.{Vertex}
use Rattle.llb.specs.WellFormed.{is_well_formed}
use Rattle.plain.specs.Limits.{most_vertices}
use Rattle.llb.specs.Places.{AreLines, with_lines, places_with}
use Rattle.llb.proofs.PlacesLaws.{AreLines-with_lines}
use Rattle.llb.specs.Graph.{IsAfterInputs, IsNew, AreVertices, IsGraph}

-- an element of a list with one more is an old one or the last
pub last_cases : {X : Type 0} (xs : List X) (x : X) (k : ℕ) (y : X) → slice_get (xs ++ x ∷ []) k ≡ Some y → (slice_get xs k ≡ Some y) ⊎ ((k ≡ length xs) × (y ≡ x))
last_cases [] x zero y e = inr (refl, cc)
last_cases [] x (suc k) y e = cc
last_cases (z ∷ zs) x zero y e = inl e
last_cases (z ∷ zs) x (suc k) y e = elim (last_cases zs x k y e) [ inl h ↦ inl h | inr h ↦ inr (ap suc h.0, h.1) ]

-- an element of a list that was written to is an old one or the one written
set_cases : {X : Type 0} (xs : List X) (i : ℕ) (x : X) (k : ℕ) (y : X) → slice_get (slice_set xs i x) k ≡ Some y → (slice_get xs k ≡ Some y) ⊎ ((k ≡ i) × (y ≡ x))
set_cases [] i x k y e = inl e
set_cases (z ∷ zs) zero x zero y e = inr (refl, cc)
set_cases (z ∷ zs) zero x (suc k) y e = inl e
set_cases (z ∷ zs) (suc i) x zero y e = inl e
set_cases (z ∷ zs) (suc i) x (suc k) y e = elim (set_cases zs i x k y e) [ inl h ↦ inl h | inr h ↦ inr (ap suc h.0, h.1) ]

once_cases : (vs : List Vertex) (v : Vertex) (j k : ℕ) (w : Vertex) → AreVertices vs → IsNew vs v → (slice_get vs j ≡ Some w) ⊎ ((j ≡ length vs) × (w ≡ v)) → (slice_get vs k ≡ Some w) ⊎ ((k ≡ length vs) × (w ≡ v)) → j ≡ k
once_cases vs v j k w are fresh (inl a) (inl b) = are.once j k w a b
once_cases vs v j k w are fresh (inl a) (inr b) = absurd (fresh j (a ∙ ap Some b.1))
once_cases vs v j k w are fresh (inr a) (inl b) = absurd (fresh k (b ∙ ap Some a.1))
once_cases vs v j k w are fresh (inr a) (inr b) = a.0 ∙ sym b.0

after_cases : (vs : List Vertex) (v : Vertex) (k : ℕ) (w : Vertex) → AreVertices vs → IsAfterInputs (length vs) v → (slice_get vs k ≡ Some w) ⊎ ((k ≡ length vs) × (w ≡ v)) → IsAfterInputs k w
after_cases vs v k w are after (inl a) = are.after k w a
after_cases vs v k w are after (inr a) = subst (λ n. IsAfterInputs n w) (sym a.0) (subst (λ u. IsAfterInputs (length vs) u) (sym a.1) after)

formed_cases : (vs : List Vertex) (v : Vertex) (k : ℕ) (w : Vertex) → AreVertices vs → IsTrue (is_well_formed v) → (slice_get vs k ≡ Some w) ⊎ ((k ≡ length vs) × (w ≡ v)) → IsTrue (is_well_formed w)
formed_cases vs v k w are formed (inl a) = are.well_formed k w a
formed_cases vs v k w are formed (inr a) = subst (λ u. IsTrue (is_well_formed u)) (sym a.1) formed

AreVertices-append : (vs : List Vertex) (v : Vertex) → AreVertices vs → IsAfterInputs (length vs) v → IsTrue (is_well_formed v) → IsNew vs v → length vs < most_vertices → AreVertices (vs ++ v ∷ [])
AreVertices-append vs v are after formed fresh room = record {
  few = let e = length-append vs (v ∷ []) in omega arith;
  once = λ j k w a b. once_cases vs v j k w are fresh (last_cases vs v j w a) (last_cases vs v k w b);
  after = λ k w a. after_cases vs v k w are after (last_cases vs v k w a);
  well_formed = λ k w a. formed_cases vs v k w are formed (last_cases vs v k w a);
}

lines_cases : (ps : List (List ℕ)) (ls : List ℕ) (k : ℕ) (ms : List ℕ) → ((j : ℕ) (ns : List ℕ) → slice_get ps j ≡ Some ns → AreLines ns) → AreLines ls → (P : Type 0) → (slice_get ps k ≡ Some ms) ⊎ (P × (ms ≡ ls)) → AreLines ms
lines_cases ps ls k ms old are P (inl a) = old k ms a
lines_cases ps ls k ms old are P (inr a) = subst AreLines (sym a.1) are

-- a new vertex at the end
pub append_keeps : (vs us : List Vertex) (ps qs : List (List ℕ)) (v : Vertex) (lines : List ℕ)
    → IsGraph (record { vertices = vs; places = ps }) → IsAfterInputs (length vs) v → IsTrue (is_well_formed v) → AreLines lines
    → IsNew vs v → length vs < most_vertices → us ≡ vs ++ v ∷ [] → qs ≡ ps ++ lines ∷ []
    → IsGraph (record { vertices = us; places = qs })
append_keeps vs us ps qs v lines is after formed are fresh room eu eq = rw (eu, eq) (record {
  vertices = AreVertices-append vs v is.vertices after formed fresh room;
  beside =
      let e = length-append vs (v ∷ []) in
      let f = length-append ps (lines ∷ []) in
      let g : length ps ≡ length vs = is.beside in
      omega arith;
  places = λ k ms a. lines_cases ps lines k ms is.places are _ (last_cases ps lines k ms a);
})

-- more lines for a vertex that is there
pub found_keeps : (vs : List Vertex) (ps qs : List (List ℕ)) (v : Vertex) (lines : List ℕ) (id : ℕ)
    → IsGraph (record { vertices = vs; places = ps }) → slice_get vs id ≡ Some v → AreLines lines → qs ≡ places_with lines id ps
    → IsGraph (record { vertices = vs; places = qs })
found_keeps vs ps qs v [] id is at are eq = rw eq is
found_keeps vs ps qs v (line ∷ lines) id is at are eq =
    let within : id < length vs = slice_get_within vs id v at in
    let beside : length ps ≡ length vs = is.beside in
    let in_ps : id < length ps = omega arith in
    let old : AreLines (slice_index_or ps id []) = is.places id _ (slice_get-get_or ps id [] in_ps) in
    let new : AreLines (with_lines (line ∷ lines) (slice_index_or ps id [])) = AreLines-with_lines (line ∷ lines) _ are old in
    rw eq (record {
      vertices = is.vertices;
      beside = length-set ps id _ ∙ beside;
      places = λ k ms a. lines_cases ps (with_lines (line ∷ lines) (slice_index_or ps id [])) k ms is.places new _ (set_cases ps id _ k ms a);
    })
