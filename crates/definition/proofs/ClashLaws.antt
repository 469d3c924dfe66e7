-- A clash is told exactly where two different vertices have one address.
use Rattle.std.specs.Prelude.{◌≡◌, ◌<◌, ◌+◌, ℕ, cond, Option, Some, None, List, [], ◌∷◌, ◌++◌, length, slice_get, slice_index_or, is_some}
use Rattle.std.proofs.Common.{sym, ap, refl, ◌∙◌, true≢false, arith}
use Rattle.std.specs.Option.{unwrap_or}
use Rattle.std.proofs.lemmas.Option.{slice_get-get_or, slice_get_within}
use Rattle.std.proofs.lemmas.List.{get_or-append-add, length_push}
use Rattle.llb.specs.declared.vertex.Vertex.{Vertex}
use Rattle.llb.specs.Graph.{AreVertices}
use Rattle.addresses.specs.Address.{addresses_of, addresses_after, vertex_address, clash_after, place_of, AreOnce}
use Rattle.definition.specs.Definition.{AreAlike}
use Rattle.definition.proofs.AddressFacts.{addresses_after-kept, address_of-is, length-addresses_after}
use Rattle.addresses.proofs.PlaceFacts.{none_once, once-after}
use Rattle.definition.proofs.ReadingFacts.{at-place, addresses-count}
use Rattle.definition.proofs.ShapeFacts.{place-below}

some_same : {A : Type 0} (x y : A) → Some x ≡ Some y → x ≡ y
some_same x y e = ap (λ o. unwrap_or o x) e

clash-found : (vs : List Vertex) (known : List (List ℕ)) (k : ℕ) → clash_after known vs ≡ Some k → (j : ℕ) × AreAlike (addresses_after known vs) j k
clash-found [] known k e = absurd (true≢false (sym (ap is_some e)))
clash-found (v ∷ vs) known k e = by (place_of known (vertex_address known v)) refl e (clash-found vs (known ++ vertex_address known v ∷ []) k)
  where
    by : (o : Option ℕ) → place_of known (vertex_address known v) ≡ o → cond (is_some o) (Some (length known)) (clash_after (known ++ vertex_address known v ∷ []) vs) ≡ Some k → (clash_after (known ++ vertex_address known v ∷ []) vs ≡ Some k → (j : ℕ) × AreAlike (addresses_after known (v ∷ vs)) j k)
        → (j : ℕ) × AreAlike (addresses_after known (v ∷ vs)) j k
    by None is e rest = rest e
    by (Some j) is e rest =
        let last : length known ≡ k = some_same (length known) k e in
        let low : j < length known = place-below known (vertex_address known v) j is in
        let more : length (known ++ vertex_address known v ∷ []) ≡ length known + 1 = length_push known (vertex_address known v) in
        let long : length (addresses_after (known ++ vertex_address known v ∷ []) vs) ≡ length (known ++ vertex_address known v ∷ []) + length vs = length-addresses_after (known ++ vertex_address known v ∷ []) vs in
        let low' : length known < length (known ++ vertex_address known v ∷ []) = omega arith in
        let here : slice_index_or (addresses_after known (v ∷ vs)) (length known) [] ≡ vertex_address known v =
        addresses_after-kept (known ++ vertex_address known v ∷ []) vs (length known) low'
        ∙ (let s : length known ≡ length known + 0 = omega arith in ap (λ n. slice_index_or (known ++ vertex_address known v ∷ []) n []) s)
        ∙ get_or-append-add known (vertex_address known v ∷ []) 0 [] in
        let there : slice_index_or (addresses_after known (v ∷ vs)) j [] ≡ vertex_address known v = addresses_after-kept known (v ∷ vs) j low ∙ at-place known (vertex_address known v) j is in
        (j, record { before = omega arith; inside = omega arith; same = there ∙ sym here ∙ ap (λ n. slice_index_or (addresses_after known (v ∷ vs)) n []) last })

-- a clash is told at a vertex with the address of another one before it
pub clash-is : (vs : List Vertex) (k : ℕ) → clash_after [] vs ≡ Some k → (j : ℕ) × AreAlike (addresses_of vs) j k
clash-is vs k e = clash-found vs [] k e

-- where none is told, vertices with one address are one
pub no-clash-is : (vs : List Vertex) (j k : ℕ) (v w : Vertex) → AreVertices vs → clash_after [] vs ≡ None → slice_get vs j ≡ Some v → slice_get vs k ≡ Some w → vertex_address (addresses_of vs) v ≡ vertex_address (addresses_of vs) w → v ≡ w
no-clash-is vs j k v w are none at-j at-k same =
    let once : AreOnce (addresses_of vs) = once-after [] vs none_once none in
    let count : length (addresses_of vs) ≡ length vs = addresses-count vs in
    let inside-j : j < length (addresses_of vs) = (let h : j < length vs = slice_get_within vs j v at-j in omega arith) in
    let inside-k : k < length (addresses_of vs) = (let h : k < length vs = slice_get_within vs k w at-k in omega arith) in
    let place-j : place_of (addresses_of vs) (vertex_address (addresses_of vs) v) ≡ Some j = once.at j (vertex_address (addresses_of vs) v) (slice_get-get_or (addresses_of vs) j [] inside-j ∙ ap Some (address_of-is vs j v at-j (are.after j v at-j))) in
    let place-k : place_of (addresses_of vs) (vertex_address (addresses_of vs) w) ≡ Some k = once.at k (vertex_address (addresses_of vs) w) (slice_get-get_or (addresses_of vs) k [] inside-k ∙ ap Some (address_of-is vs k w at-k (are.after k w at-k))) in
    let one : j ≡ k = some_same j k (sym place-j ∙ ap (place_of (addresses_of vs)) same ∙ place-k) in
    some_same v w (sym at-j ∙ ap (slice_get vs) one ∙ at-k)
