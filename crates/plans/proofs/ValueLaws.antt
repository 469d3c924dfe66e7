-- What follows about the values of vertices: a vertex's value is its operation's result on its inputs' values, and vertices
-- that are added later change none.
use Rattle.std.specs.Prelude.{◌≡◌, ◌<◌, ◌+◌, ℕ, zero, suc, Some, None, List, [], ◌∷◌, ◌++◌, map, length, slice_get, slice_index_or, refl}
use Rattle.std.specs.Option.{option_and_then}
use Rattle.std.proofs.Common.{arith, ap, sym, ◌∙◌, subst, inl, inr, length-append}
use Rattle.std.proofs.lemmas.Bool.{cases_lt}
use Rattle.std.proofs.lemmas.List.{get_or_append_left, get_or-append-add, get_or_past}
use Rattle.llb.specs.declared.vertex.Vertex.{Vertex}
use Rattle.llb.specs.Graph.{IsAfterInputs, AreVertices}
use Rattle.plans.specs.Sources.{SourcesValue}
use Rattle.trees.specs.Cause.{TreeOrCause}
use Rattle.plans.specs.Value.{Out, Value, World, all_trees, with_tree, result_of, trees_at, value_in, values_from, values_of, value_of}
use Rattle.plans.specs.PrivateValue.{tree_at, value_on}

-- two lists of values agree below n
abbrev pub Agree : List Value → List Value → ℕ → Type 0
Agree values others n = (k : ℕ) → k < n → slice_index_or values k None ≡ slice_index_or others k None

trees_at-local : (values others : List Value) (n : ℕ) (inputs : List ℕ) → ((k d : ℕ) → k < length inputs → slice_index_or inputs k d < n) → Agree values others n → trees_at values inputs ≡ trees_at others inputs
trees_at-local values others n [] below agree = refl
trees_at-local values others n (i ∷ is) below agree =
    let here : slice_index_or values i None ≡ slice_index_or others i None = agree i (below 0 0 (omega arith)) in
    let there : trees_at values is ≡ trees_at others is = trees_at-local values others n is (λ k d h. below (suc k) d (omega arith)) agree in
    rw (here, there) refl

-- a vertex looks at the values of its inputs alone
pub value_in-local : (out : Out) (sources : SourcesValue) (values others : List Value) (n : ℕ) (vertex : Vertex) → IsAfterInputs n vertex → Agree values others n → value_in out sources values vertex ≡ value_in out sources others vertex
value_in-local out sources values others n vertex after agree = ap (option_and_then (result_of out sources vertex.op)) (trees_at-local values others n vertex.inputs after agree)

pub values_from-append : (out : Out) (sources : SourcesValue) (values : List Value) (vs ws : List Vertex) → values_from out sources values (vs ++ ws) ≡ values_from out sources (values_from out sources values vs) ws
values_from-append out sources values [] ws = refl
values_from-append out sources values (v ∷ vs) ws = values_from-append out sources (values ++ value_in out sources values v ∷ []) vs ws

-- what is known stays
pub values_from-kept : (out : Out) (sources : SourcesValue) (values : List Value) (vs : List Vertex) → Agree (values_from out sources values vs) values (length values)
values_from-kept out sources values [] k lt = refl
values_from-kept out sources values (v ∷ vs) k lt =
    let more : length (values ++ value_in out sources values v ∷ []) ≡ length values + 1 = length-append values (value_in out sources values v ∷ []) in
    let lt_more : k < length (values ++ value_in out sources values v ∷ []) = omega arith in
    values_from-kept out sources (values ++ value_in out sources values v ∷ []) vs k lt_more ∙ get_or_append_left values (value_in out sources values v ∷ []) None k lt

pub length-values_from : (out : Out) (sources : SourcesValue) (values : List Value) (vs : List Vertex) → length (values_from out sources values vs) ≡ length values + length vs
length-values_from out sources values [] = omega arith
length-values_from out sources values (v ∷ vs) =
    let more : length (values ++ value_in out sources values v ∷ []) ≡ length values + 1 = length-append values (value_in out sources values v ∷ []) in
    let rest = length-values_from out sources (values ++ value_in out sources values v ∷ []) vs in
    omega arith

agree_sym : (values others : List Value) (n : ℕ) → Agree values others n → Agree others values n
agree_sym values others n agree k lt = sym (agree k lt)

value_at : (out : Out) (sources : SourcesValue) (values : List Value) (vs : List Vertex) (k : ℕ) (vertex : Vertex) → slice_get vs k ≡ Some vertex → IsAfterInputs (length values + k) vertex → slice_index_or (values_from out sources values vs) (length values + k) None ≡ value_in out sources (values_from out sources values vs) vertex
value_at out sources values [] k vertex at after = cc
value_at out sources values (v ∷ vs) zero vertex at after =
    let same : v ≡ vertex = cc in
    let after_v : IsAfterInputs (length values) vertex = let e : length values + 0 ≡ length values = omega arith in subst (λ n. IsAfterInputs n vertex) e after in
    let more : length (values ++ value_in out sources values v ∷ []) ≡ length values + 1 = length-append values (value_in out sources values v ∷ []) in
    let inside : length values + 0 < length (values ++ value_in out sources values v ∷ []) = omega arith in
    let kept = values_from-kept out sources (values ++ value_in out sources values v ∷ []) vs (length values + 0) inside in
    let here = get_or-append-add values (value_in out sources values v ∷ []) 0 None in
    let as_vertex : value_in out sources values v ≡ value_in out sources values vertex = ap (value_in out sources values) same in
    kept ∙ here ∙ as_vertex ∙ value_in-local out sources values (values_from out sources values (v ∷ vs)) (length values) vertex after_v (agree_sym _ _ _ (values_from-kept out sources values (v ∷ vs)))
value_at out sources values (v ∷ vs) (suc k) vertex at after =
    let more : length (values ++ value_in out sources values v ∷ []) ≡ length values + 1 = length-append values (value_in out sources values v ∷ []) in
    let place : length values + suc k ≡ length (values ++ value_in out sources values v ∷ []) + k = omega arith in
    let deeper = value_at out sources (values ++ value_in out sources values v ∷ []) vs k vertex at (subst (λ n. IsAfterInputs n vertex) place after) in
    rw place deeper

-- a vertex's value is its operation's result on its inputs' values
pub value_of-is : (out : Out) (sources : SourcesValue) (vertices : List Vertex) (id : ℕ) (vertex : Vertex) → AreVertices vertices → slice_get vertices id ≡ Some vertex → value_of out sources vertices id ≡ value_in out sources (values_of out sources vertices) vertex
value_of-is out sources vertices id vertex are at =
    let e : 0 + id ≡ id = omega arith in
    let here = value_at out sources [] vertices id vertex at (subst (λ n. IsAfterInputs n vertex) (sym e) (are.after id vertex at)) in
    subst (λ n. slice_index_or (values_of out sources vertices) n None ≡ value_in out sources (values_of out sources vertices) vertex) e here

-- vertices that are added later don't change the values of those before
pub value_of-grown : (out : Out) (sources : SourcesValue) (vertices more : List Vertex) (id : ℕ) → id < length vertices → value_of out sources (vertices ++ more) id ≡ value_of out sources vertices id
value_of-grown out sources vertices more id lt =
    let long : length (values_of out sources vertices) ≡ 0 + length vertices = length-values_from out sources [] vertices in
    let inside : id < length (values_of out sources vertices) = omega arith in
    let cut : values_of out sources (vertices ++ more) ≡ values_from out sources (values_of out sources vertices) more = values_from-append out sources [] vertices more in
    rw cut (values_from-kept out sources (values_of out sources vertices) more id inside)

-- ---- by ids

-- the trees of inputs, by their ids
pub inputs_trees : (world : World) (vertices : List Vertex) (inputs : List ℕ)
    → trees_at (values_of world.out world.sources vertices) inputs ≡ all_trees (map (tree_at world vertices) inputs)
inputs_trees world vertices [] = refl
inputs_trees world vertices (input ∷ inputs) = ap (with_tree (tree_at world vertices input)) (inputs_trees world vertices inputs)

-- the value of a vertex is that of its operation on the vertices that are its inputs
pub value_is : (world : World) (vertices : List Vertex) (vertex : Vertex)
    → value_in world.out world.sources (values_of world.out world.sources vertices) vertex ≡ value_on world vertices vertex.op vertex.inputs
value_is world vertices vertex = rw (inputs_trees world vertices vertex.inputs) refl

-- only a vertex of the graph has a value
pub value_within : (out : Out) (sources : SourcesValue) (vertices : List Vertex) (id : ℕ) (value : TreeOrCause) → value_of out sources vertices id ≡ Some value → id < length vertices
value_within out sources vertices id value is = elim (cases_lt id (length vertices)) [
  | inl l ↦ l
  | inr past ↦
      let values : List Value = values_of out sources vertices in
      let long : length values ≡ 0 + length vertices = length-values_from out sources [] vertices in
      let none : slice_index_or values id None ≡ None = get_or_past values id None (omega (arith, long, past)) in
      let f : None ≡ Some value = sym none ∙ is in
      cc
]

-- a vertex at the end
pub value_last : (world : World) (vertices : List Vertex) (vertex : Vertex)
    → value_of world.out world.sources (vertices ++ vertex ∷ []) (length vertices) ≡ value_on world vertices vertex.op vertex.inputs
value_last world vertices vertex =
    let values : List Value = values_of world.out world.sources vertices in
    let last : List Value = value_in world.out world.sources values vertex ∷ [] in
    let cut : values_of world.out world.sources (vertices ++ vertex ∷ []) ≡ values ++ last = values_from-append world.out world.sources [] vertices (vertex ∷ []) in
    let long : length values ≡ 0 + length vertices = length-values_from world.out world.sources [] vertices in
    let at : length values + 0 ≡ length vertices = omega arith in
    ap (λ vs. slice_index_or vs (length vertices) None) cut
    ∙ subst (λ n. slice_index_or (values ++ last) n None ≡ value_in world.out world.sources values vertex) at (get_or-append-add values last 0 None)
    ∙ value_is world vertices vertex
