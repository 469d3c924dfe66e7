-- What follows of addresses: that of a vertex is the one of its data, in which its inputs are named by theirs.
use Rattle.std.specs.Prelude.{◌≡◌, ◌<◌, ◌+◌, ℕ, zero, suc, Some, List, [], ◌∷◌, ◌++◌, length, slice_get, slice_index_or, refl}
use Rattle.std.proofs.Common.{arith, ap, sym, ◌∙◌, subst, length-append}
use Rattle.std.proofs.lemmas.List.{get_or_append_left, get_or-append-add}
use Rattle.llb.specs.declared.vertex.Vertex.{Vertex}
use Rattle.llb.specs.Graph.{IsAfterInputs}
use Rattle.operations.specs.Texts.{op_data}
use Rattle.addresses.specs.Address.{address_of, addresses_at, vertex_address, addresses_after, addresses_of}

-- two lists of addresses agree below n
abbrev pub Agree : List (List ℕ) → List (List ℕ) → ℕ → Type 0
Agree known others n = (k : ℕ) → k < n → slice_index_or known k [] ≡ slice_index_or others k []

addresses_at-local : (known others : List (List ℕ)) (n : ℕ) (ids : List ℕ) → ((k d : ℕ) → k < length ids → slice_index_or ids k d < n) → Agree known others n → addresses_at known ids ≡ addresses_at others ids
addresses_at-local known others n [] below agree = refl
addresses_at-local known others n (i ∷ is) below agree =
    let here : slice_index_or known i [] ≡ slice_index_or others i [] = agree i (below 0 0 (omega arith)) in
    let there : addresses_at known is ≡ addresses_at others is = addresses_at-local known others n is (λ k d h. below (suc k) d (omega arith)) agree in
    rw (here, there) refl

-- a vertex looks at the addresses of its inputs alone
pub vertex_address-local : (known others : List (List ℕ)) (n : ℕ) (vertex : Vertex) → IsAfterInputs n vertex → Agree known others n → vertex_address known vertex ≡ vertex_address others vertex
vertex_address-local known others n vertex after agree = ap (λ inputs. address_of (op_data inputs vertex.op)) (addresses_at-local known others n vertex.inputs after agree)

pub addresses_after-append : (known : List (List ℕ)) (vs ws : List Vertex) → addresses_after known (vs ++ ws) ≡ addresses_after (addresses_after known vs) ws
addresses_after-append known [] ws = refl
addresses_after-append known (v ∷ vs) ws = addresses_after-append (known ++ vertex_address known v ∷ []) vs ws

pub length-addresses_after : (known : List (List ℕ)) (vs : List Vertex) → length (addresses_after known vs) ≡ length known + length vs
length-addresses_after known [] = omega arith
length-addresses_after known (v ∷ vs) =
    let more : length (known ++ vertex_address known v ∷ []) ≡ length known + 1 = length-append known (vertex_address known v ∷ []) in
    let rest = length-addresses_after (known ++ vertex_address known v ∷ []) vs in
    omega arith

-- what is known stays
pub addresses_after-kept : (known : List (List ℕ)) (vs : List Vertex) → Agree (addresses_after known vs) known (length known)
addresses_after-kept known [] k lt = refl
addresses_after-kept known (v ∷ vs) k lt =
    let more : length (known ++ vertex_address known v ∷ []) ≡ length known + 1 = length-append known (vertex_address known v ∷ []) in
    let lt_more : k < length (known ++ vertex_address known v ∷ []) = omega arith in
    addresses_after-kept (known ++ vertex_address known v ∷ []) vs k lt_more ∙ get_or_append_left known (vertex_address known v ∷ []) [] k lt

agree_sym : (known others : List (List ℕ)) (n : ℕ) → Agree known others n → Agree others known n
agree_sym known others n agree k lt = sym (agree k lt)

address_at : (known : List (List ℕ)) (vs : List Vertex) (k : ℕ) (vertex : Vertex) → slice_get vs k ≡ Some vertex → IsAfterInputs (length known + k) vertex → slice_index_or (addresses_after known vs) (length known + k) [] ≡ vertex_address (addresses_after known vs) vertex
address_at known [] k vertex at after = cc
address_at known (v ∷ vs) zero vertex at after =
    let same : v ≡ vertex = cc in
    let after_v : IsAfterInputs (length known) vertex = let e : length known + 0 ≡ length known = omega arith in subst (λ n. IsAfterInputs n vertex) e after in
    let more : length (known ++ vertex_address known v ∷ []) ≡ length known + 1 = length-append known (vertex_address known v ∷ []) in
    let inside : length known + 0 < length (known ++ vertex_address known v ∷ []) = omega arith in
    let kept = addresses_after-kept (known ++ vertex_address known v ∷ []) vs (length known + 0) inside in
    let here = get_or-append-add known (vertex_address known v ∷ []) 0 [] in
    let as_vertex : vertex_address known v ≡ vertex_address known vertex = ap (vertex_address known) same in
    kept ∙ here ∙ as_vertex ∙ vertex_address-local known (addresses_after known (v ∷ vs)) (length known) vertex after_v (agree_sym _ _ _ (addresses_after-kept known (v ∷ vs)))
address_at known (v ∷ vs) (suc k) vertex at after =
    let more : length (known ++ vertex_address known v ∷ []) ≡ length known + 1 = length-append known (vertex_address known v ∷ []) in
    let place : length known + suc k ≡ length (known ++ vertex_address known v ∷ []) + k = omega arith in
    let deeper = address_at (known ++ vertex_address known v ∷ []) vs k vertex at (subst (λ n. IsAfterInputs n vertex) place after) in
    rw place deeper

-- the address of a vertex of a graph
pub address_of-is : (vertices : List Vertex) (id : ℕ) (vertex : Vertex) → slice_get vertices id ≡ Some vertex → IsAfterInputs id vertex → slice_index_or (addresses_of vertices) id [] ≡ vertex_address (addresses_of vertices) vertex
address_of-is vertices id vertex at after =
    let e : 0 + id ≡ id = omega arith in
    let here = address_at [] vertices id vertex at (subst (λ n. IsAfterInputs n vertex) (sym e) after) in
    subst (λ n. slice_index_or (addresses_of vertices) n [] ≡ vertex_address (addresses_of vertices) vertex) e here
