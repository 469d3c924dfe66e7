-- What was written reads back.
use Rattle.std.specs.Prelude.{◌≡◌, ◌<◌, ◌≤◌, ◌+◌, ℕ, zero, suc, Bool, true, false, Option, Some, None, Ok, List, [], ◌∷◌, ◌++◌, map, length, slice_get, slice_index_or, get_or, take, is_some}
use Rattle.std.proofs.Common.{sym, ap, refl, ◌∙◌, subst, true≢false, arith, append_assoc, append-nil}
use Rattle.std.specs.Option.{option_map, option_and_then}
use Rattle.std.specs.List.{list_any, list_all, All}
use Rattle.std.proofs.lemmas.Option.{slice_get-get_or, slice_get_within}
use Rattle.std.proofs.lemmas.Bool.{le-leb}
use Rattle.std.proofs.lemmas.List.{length_push, take_more, length-map}
use Rattle.serde_json.specs.Data.{Data, depth, items_depth}
use Rattle.serde_json.specs.View.{items_of}
use Rattle.serde_json.specs.Read.{read}
use Rattle.paths.proofs.FrontLaws.{both_hold, both_first, both_second}
use Rattle.plain.specs.Limits.{most_vertices}
use Rattle.llb.specs.declared.op.Op.{Op}
use Rattle.llb.specs.declared.op.Op.TheVariants.{Source as SourceOp, Exec as ExecOp, Copy as CopyOp, MakeDirs as MakeDirsOp, Merge as MergeOp}
use Rattle.llb.specs.declared.vertex.Vertex.{Vertex}
use Rattle.llb.specs.Graph.{GraphValue, IsGraph, AreVertices, IsNew, IsAfterInputs}
use Rattle.llb.specs.Places.{AreLines}
use Rattle.llb.specs.WellFormed.{is_well_formed_on}
use Rattle.operations.specs.Texts.{source_data, exec_data, copy_data, mkdir_data, merge_data, op_data}
use Rattle.operations.specs.Spelled.{is_address, inputs_in, spelled_in}
use Rattle.operations.specs.Proper.{IsProper}
use Rattle.operations.proofs.OperationLaws.{op-back}
use Rattle.operations.proofs.DepthFacts.{op-depth}
use Rattle.strict.specs.Strict.{list_in}
use Rattle.addresses.specs.Address.{addresses_at, addresses_of, addresses_after, vertex_data, vertex_address, data_after, clash_after, place_of, places_of, AreOnce}
use Rattle.definition.specs.Definition.{end_data, end_of, whole_data, definition_data, first_definition_data, AreProper}
use Rattle.definition.specs.Lines.{lined, lined_all, operation_in}
use Rattle.definition.specs.PrivateWriting.{IsTextOf}
use Rattle.definition.specs.Reading.{Operations, address_place, IsNext, IsReadAfter, grown, no_graph, graph_of, end_in, is_end, list_of, parted_few, parts_in, parts_of, IsReadAs}
use Rattle.addresses.proofs.FormFacts.{address-is}
use Rattle.definition.proofs.LinesFacts.{operation-back, lined-depth, lined_all-length}
use Rattle.addresses.proofs.PlaceFacts.{once-push, none_once, no_clash, once-after}
use Rattle.definition.proofs.ReadingFacts.{addresses-with, addresses-count}
use Rattle.definition.proofs.ShapeFacts.{list-items, parted-last}

-- ---- inputs

below-head : (n k : ℕ) (ks : List ℕ) → All (λ id. id < n) (k ∷ ks) → k < n
below-head n k ks all = all 0 0 (omega arith)

below-tail : (n k : ℕ) (ks : List ℕ) → All (λ id. id < n) (k ∷ ks) → All (λ id. id < n) ks
below-tail n k ks all j d inside = all (suc j) d (omega arith)

-- addresses of vertices that stand are found again
pub places-back : (known : List (List ℕ)) (ids : List ℕ) → AreOnce known → All (λ id. id < length known) ids → places_of known (addresses_at known ids) ≡ Some ids
places-back known [] once below = refl
places-back known (k ∷ ks) once below =
    let inside : k < length known = below-head (length known) k ks below in
    let here : place_of known (slice_index_or known k []) ≡ Some k = once.at k (slice_index_or known k []) (slice_get-get_or known k [] inside) in
    rw (here, places-back known ks once (below-tail (length known) k ks below)) refl

-- a vertex whose data spells it is read as it
next-back : (before : List Vertex) (v : Vertex) → AreOnce (addresses_of before) → IsAfterInputs (length before) v → IsNew before v → spelled_in (vertex_data (addresses_of before) v) ≡ Some (record { op = v.op; inputs = addresses_at (addresses_of before) v.inputs })
    → address_place before v ≡ None → IsNext before (vertex_data (addresses_of before) v) (Ok v)
next-back before v once after fresh back none =
    let below : All (λ id. id < length (addresses_of before)) v.inputs = subst (λ (n : ℕ). All (λ id. id < n) v.inputs) (sym (addresses-count before)) after in (
      record { told = record { op = v.op; inputs = addresses_at (addresses_of before) v.inputs }; spelled = back; named = ap (option_map (λ (ids : List ℕ). record { op = v.op; inputs = ids })) (places-back (addresses_of before) v.inputs once below) },
      (fresh, none),
    )

-- the data of vertices spells each of them
abbrev pub AllBack : List (List ℕ) → List Vertex → Type 0
AllBack known [] = Unit {0}
AllBack known (v ∷ vs) = (spelled_in (vertex_data known v) ≡ Some (record { op = v.op; inputs = addresses_at known v.inputs })) × AllBack (known ++ vertex_address known v ∷ []) vs

-- a graph with vertices more, and the lines behind them
abbrev pub grown_by : GraphValue → List Vertex → List (List ℕ) → GraphValue
grown_by graph [] places = graph
grown_by graph (v ∷ vs) [] = grown_by (grown graph v []) vs []
grown_by graph (v ∷ vs) (lines ∷ places) = grown_by (grown graph v lines) vs places

-- operations with their lines beside them
abbrev pub beside : List Data → List (List ℕ) → Operations
beside [] places = []
beside (d ∷ ds) [] = (d, []) ∷ beside ds []
beside (d ∷ ds) (lines ∷ places) = (d, lines) ∷ beside ds places

get-at : (xs ys : List Vertex) (y : Vertex) → slice_get (xs ++ y ∷ ys) (length xs) ≡ Some y
get-at [] ys y = refl
get-at (x ∷ xs) ys y = get-at xs ys y

get-front : (xs ys : List Vertex) (k : ℕ) (x : Vertex) → slice_get xs k ≡ Some x → slice_get (xs ++ ys) k ≡ Some x
get-front [] ys zero x e = absurd (true≢false (sym (ap is_some e)))
get-front [] ys (suc k) x e = absurd (true≢false (sym (ap is_some e)))
get-front (z ∷ xs) ys zero x e = e
get-front (z ∷ xs) ys (suc k) x e = get-front xs ys k x e

-- among the vertices of a graph, one is none of those before it
new-at : (before after : List Vertex) (v : Vertex) → AreVertices (before ++ v ∷ after) → IsNew before v
new-at before after v are k there =
    let inside : k < length before = slice_get_within before k v there in
    let same : k ≡ length before = are.once k (length before) v (get-front before (v ∷ after) k v there) (get-at before after v) in
    absurd (omega arith)

pub chain-back : (vs : List Vertex) (places : List (List ℕ)) (graph : GraphValue) (known : List (List ℕ)) → length places ≡ length vs → known ≡ addresses_of graph.vertices → AreOnce known → AreVertices (graph.vertices ++ vs) → clash_after known vs ≡ None → AllBack known vs
    → IsReadAfter graph (beside (data_after known vs) places) (Ok (grown_by graph vs places))
chain-back [] places graph known long same once are none back = refl
chain-back (v ∷ vs) [] graph known long same once are none back = absurd (omega (arith, long))
chain-back (v ∷ vs) (lines ∷ places) graph known long same once are none back =
    let parts = no_clash (place_of known (vertex_address known v)) (length known) (clash_after (known ++ vertex_address known v ∷ []) vs) none in
    let after : IsAfterInputs (length graph.vertices) v = are.after (length graph.vertices) v (get-at graph.vertices vs v) in
    let here : IsNext graph.vertices (vertex_data known v) (Ok v) =
    subst (λ (k : List (List ℕ)). IsNext graph.vertices (vertex_data k v) (Ok v)) (sym same)
    (next-back graph.vertices v (subst AreOnce same once) after (new-at graph.vertices vs v are)
    (subst (λ (k : List (List ℕ)). spelled_in (vertex_data k v) ≡ Some (record { op = v.op; inputs = addresses_at k v.inputs })) same back.0)
    ((λ i. place_of (sym same i) (vertex_address (sym same i) v)) ∙ parts.0)) in
    let same' : known ++ vertex_address known v ∷ [] ≡ addresses_of (graph.vertices ++ v ∷ []) = (λ i. same i ++ vertex_address (same i) v ∷ []) ∙ sym (addresses-with graph.vertices v) in
    let rest : length places ≡ length vs = omega (arith, long) in
    (v, (here, chain-back vs places (grown graph v lines) (known ++ vertex_address known v ∷ []) rest same' (once-push known (vertex_address known v) once parts.0) (subst AreVertices (sym (append_assoc graph.vertices (v ∷ []) vs)) are) parts.1 back.1))

-- the graph that grew
pub whole-grown : (vs : List Vertex) (places : List (List ℕ)) (graph : GraphValue) → length places ≡ length vs → grown_by graph vs places ≡ record { vertices = graph.vertices ++ vs; places = graph.places ++ places }
whole-grown [] [] graph long = λ i. record { vertices = sym (append-nil graph.vertices) i; places = sym (append-nil graph.places) i }
whole-grown [] (lines ∷ places) graph long = absurd (omega (arith, long))
whole-grown (v ∷ vs) [] graph long = absurd (omega (arith, long))
whole-grown (v ∷ vs) (lines ∷ places) graph long =
    let rest : length places ≡ length vs = omega (arith, long) in
    whole-grown vs places (grown graph v lines) rest ∙ (λ i. record { vertices = append_assoc graph.vertices (v ∷ []) vs i; places = append_assoc graph.places (lines ∷ []) places i })

-- operations that were written with their lines are read with them
pub operations-back : (known : List (List ℕ)) (vs : List Vertex) (places : List (List ℕ)) → length places ≡ length vs → ((k : ℕ) (lines : List ℕ) → slice_get places k ≡ Some lines → AreLines lines)
    → map (operation_in true) (lined_all places (data_after known vs)) ≡ beside (data_after known vs) places
operations-back known [] places long are = refl
operations-back known (v ∷ vs) [] long are = absurd (omega (arith, long))
operations-back known (v ∷ vs) (lines ∷ places) long are =
    let rest : length places ≡ length vs = omega (arith, long) in
    (λ i. operation-back (addresses_at known v.inputs) v.op lines (are 0 lines refl) i ∷ operations-back (known ++ vertex_address known v ∷ []) vs places rest (λ k ls e. are (suc k) ls e) i)

-- and those that were written without lines are read without
pub first-back : (known : List (List ℕ)) (vs : List Vertex) → map (operation_in false) (data_after known vs) ≡ beside (data_after known vs) (map (λ _. []) vs)
first-back known [] = refl
first-back known (v ∷ vs) = ap (λ os. (vertex_data known v, []) ∷ os) (first-back (known ++ vertex_address known v ∷ []) vs)

-- ---- the end

pub end-back : (address : List ℕ) → is_address address ≡ true → end_in (end_data address) ≡ Some address
unfolding end_in end_data inputs_in list_in
end-back address is = rw is refl

pub end-is : (address : List ℕ) → is_end (end_data address) ≡ true
unfolding end_data
end-is address = refl

op-no_end : (inputs : List (List ℕ)) (op : Op) → is_end (op_data inputs op) ≡ false
unfolding source_data exec_data copy_data mkdir_data merge_data
op-no_end inputs (SourceOp source) = refl
op-no_end inputs (ExecOp exec) = refl
op-no_end inputs (CopyOp files) = refl
op-no_end inputs (MakeDirsOp path) = refl
op-no_end inputs MergeOp = refl

lined-no_end : (lines : List ℕ) (inputs : List (List ℕ)) (op : Op) → is_end (lined lines (op_data inputs op)) ≡ false
unfolding source_data exec_data copy_data mkdir_data merge_data
lined-no_end lines inputs (SourceOp source) = refl
lined-no_end lines inputs (ExecOp exec) = refl
lined-no_end lines inputs (CopyOp files) = refl
lined-no_end lines inputs (MakeDirsOp path) = refl
lined-no_end lines inputs MergeOp = refl

no_ends : (known : List (List ℕ)) (vs : List Vertex) → list_any is_end (data_after known vs) ≡ false
no_ends known [] = refl
no_ends known (v ∷ vs) = rw (op-no_end (addresses_at known v.inputs) v.op) (no_ends (known ++ vertex_address known v ∷ []) vs)

lined-no_ends : (places : List (List ℕ)) (known : List (List ℕ)) (vs : List Vertex) → list_any is_end (lined_all places (data_after known vs)) ≡ false
lined-no_ends places known [] = refl
lined-no_ends [] known (v ∷ vs) = rw (lined-no_end [] (addresses_at known v.inputs) v.op) (lined-no_ends [] (known ++ vertex_address known v ∷ []) vs)
lined-no_ends (lines ∷ places) known (v ∷ vs) = rw (lined-no_end lines (addresses_at known v.inputs) v.op) (lined-no_ends places (known ++ vertex_address known v ∷ []) vs)

length-data_after : (known : List (List ℕ)) (vs : List Vertex) → length (data_after known vs) ≡ length vs
length-data_after known [] = refl
length-data_after known (v ∷ vs) = ap suc (length-data_after (known ++ vertex_address known v ∷ []) vs)

-- the shape of what is written
shape-few : (ds : List Data) (address : List ℕ) → list_any is_end ds ≡ false → length ds ≤ most_vertices → option_and_then parted_few (Some (list_of (items_of (ds ++ end_data address ∷ [])))) ≡ Some (ds, end_data address)
unfolding parted_few
shape-few ds address none few = rw (list-items (ds ++ end_data address ∷ []), parted-last ds (end_data address), none, end-is address, le-leb (length ds) most_vertices few) refl

taken-by : (says : Bool) (o : Option (List Data × Data)) (ds : List Data) (last : Data) → o ≡ Some (ds, last)
    → option_map {U = Operations × Data} (λ (parts : List Data × Data). (map (operation_in says) parts.0, parts.1)) o ≡ Some (map (operation_in says) ds, last)
taken-by says o ds last e = ap (option_map {U = Operations × Data} (λ (parts : List Data × Data). (map (operation_in says) parts.0, parts.1))) e

second-shape : (ds : List Data) (address : List ℕ) → list_any is_end ds ≡ false → length ds ≤ most_vertices → parts_in (whole_data 2 (ds ++ end_data address ∷ [])) ≡ Some (map (operation_in true) ds, end_data address)
unfolding parts_in whole_data
second-shape ds address none few = taken-by true _ ds (end_data address) (shape-few ds address none few)

first-shape : (ds : List Data) (address : List ℕ) → list_any is_end ds ≡ false → length ds ≤ most_vertices → parts_in (whole_data 1 (ds ++ end_data address ∷ [])) ≡ Some (map (operation_in false) ds, end_data address)
unfolding parts_in whole_data
first-shape ds address none few = taken-by false _ ds (end_data address) (shape-few ds address none few)

-- ---- the whole

all-at : (known : List (List ℕ)) (k : ℕ) → list_all is_address known ≡ true → k < length known → is_address (slice_index_or known k []) ≡ true
all-at [] k all inside = absurd (omega arith)
all-at (a ∷ known) zero all inside = both_first _ _ all
all-at (a ∷ known) (suc k) all inside = all-at known k (both_second (is_address a) _ all) (omega arith)

all-named : (known : List (List ℕ)) (ids : List ℕ) → list_all is_address known ≡ true → All (λ id. id < length known) ids → list_all is_address (addresses_at known ids) ≡ true
all-named known [] all below = refl
all-named known (k ∷ ks) all below = both_hold _ _ (all-at known k all (below-head (length known) k ks below)) (all-named known ks all (below-tail (length known) k ks below))

all-more : (known : List (List ℕ)) (a : List ℕ) → list_all is_address known ≡ true → is_address a ≡ true → list_all is_address (known ++ a ∷ []) ≡ true
all-more [] a all is = both_hold _ _ is refl
all-more (b ∷ known) a all is = both_hold _ _ (both_first _ _ all) (all-more known a (both_second (is_address b) _ all) is)

all-addresses : (known : List (List ℕ)) (vs : List Vertex) → list_all is_address known ≡ true → list_all is_address (addresses_after known vs) ≡ true
all-addresses known [] all = all
all-addresses known (v ∷ vs) all = all-addresses (known ++ vertex_address known v ∷ []) vs (all-more known (vertex_address known v) all (address-is (vertex_data known v)))

length-named : (known : List (List ℕ)) (ids : List ℕ) → length (addresses_at known ids) ≡ length ids
length-named known [] = refl
length-named known (k ∷ ks) = ap suc (length-named known ks)

all-back : (vs before : List Vertex) (known : List (List ℕ)) → length known ≡ length before → list_all is_address known ≡ true → AreVertices (before ++ vs) → AreProper vs → AllBack known vs
all-back [] before known count all are proper = tt
all-back (v ∷ vs) before known count all are proper =
    let at = get-at before vs v in
    let after : All (λ id. id < length known) v.inputs = subst (λ (n : ℕ). All (λ id. id < n) v.inputs) (sym count) (are.after (length before) v at) in
    let formed : is_well_formed_on v.op (length (addresses_at known v.inputs)) ≡ true = ap (is_well_formed_on v.op) (length-named known v.inputs) ∙ are.well_formed (length before) v at in
    let here = op-back (addresses_at known v.inputs) v.op proper.0 formed (all-named known v.inputs all after) in
    let count' : length (known ++ vertex_address known v ∷ []) ≡ length (before ++ v ∷ []) = length_push known (vertex_address known v) ∙ ap (λ n. n + 1) count ∙ sym (length_push before v) in
    (here, all-back vs (before ++ v ∷ []) (known ++ vertex_address known v ∷ []) count' (all-more known (vertex_address known v) all (address-is (vertex_data known v))) (subst AreVertices (sym (append_assoc before (v ∷ []) vs)) are) proper.1)

-- a text whose operations are those of a graph, in either version
text-read : (text : List ℕ) (vs : List Vertex) (places : List (List ℕ)) (wanted : ℕ) → AreVertices vs → AreProper vs → length places ≡ length vs → wanted < length vs → clash_after [] vs ≡ None
    → parts_of text ≡ Some (beside (data_after [] vs) places, end_of vs wanted) → IsReadAs text (Ok (record { vertices = vs; places = places }, wanted))
text-read text vs places wanted are proper long inside none shape =
    let address = slice_index_or (addresses_of vs) wanted [] in
    let all : list_all is_address (addresses_of vs) ≡ true = all-addresses [] vs refl in
    let within : wanted < length (addresses_of vs) = (let count : length (addresses_of vs) ≡ length vs = addresses-count vs in omega arith) in
    let chain : IsReadAfter no_graph (beside (data_after [] vs) places) (Ok (grown_by no_graph vs places)) = chain-back vs places no_graph [] long refl none_once are none (all-back vs [] [] refl refl are proper) in
    let once : AreOnce (addresses_of vs) = once-after [] vs none_once none in
    let here : place_of (addresses_of vs) address ≡ Some wanted = once.at wanted address (slice_get-get_or (addresses_of vs) wanted [] within) in
    (beside (data_after [] vs) places, (end_data address, (shape, (subst (λ (g : GraphValue). IsReadAfter no_graph (beside (data_after [] vs) places) (Ok g)) (whole-grown vs places no_graph long) chain, (address, (end-back address (all-at (addresses_of vs) wanted all within), here))))))

-- What was written reads back: a text that holds the definition of a graph and its result is read as these.
pub round-trip : (text : List ℕ) (graph : GraphValue) (wanted : ℕ) → IsGraph graph → AreProper graph.vertices → wanted < length graph.vertices → clash_after [] graph.vertices ≡ None → read text ≡ Some (definition_data graph wanted) → IsReadAs text (Ok (graph, wanted))
round-trip text graph wanted is proper inside none spelled =
    let ds = data_after [] graph.vertices in
    let count : length (lined_all graph.places ds) ≡ length graph.vertices = lined_all-length graph.places ds ∙ length-data_after [] graph.vertices in
    let few : length (lined_all graph.places ds) ≤ most_vertices = (let most = is.vertices.few in omega (arith, count, most)) in
    let shape : parts_of text ≡ Some (beside ds graph.places, end_of graph.vertices wanted) =
    ap (option_and_then parts_in) spelled
    ∙ second-shape (lined_all graph.places ds) (slice_index_or (addresses_of graph.vertices) wanted []) (lined-no_ends graph.places [] graph.vertices) few
    ∙ ap (λ os. Some (os, end_of graph.vertices wanted)) (operations-back [] graph.vertices graph.places is.beside is.places) in
    text-read text graph.vertices graph.places wanted is.vertices proper is.beside inside none shape

-- The same of a text of version 1, which has no lines.
pub first-round-trip : (text : List ℕ) (vs : List Vertex) (wanted : ℕ) → AreVertices vs → AreProper vs → wanted < length vs → clash_after [] vs ≡ None → read text ≡ Some (first_definition_data vs wanted) → IsReadAs text (Ok (graph_of vs, wanted))
first-round-trip text vs wanted are proper inside none spelled =
    let ds = data_after [] vs in
    let count : length ds ≡ length vs = length-data_after [] vs in
    let few : length ds ≤ most_vertices = (let most = are.few in omega (arith, count, most)) in
    let shape : parts_of text ≡ Some (beside ds (map (λ _. []) vs), end_of vs wanted) =
    ap (option_and_then parts_in) spelled
    ∙ first-shape ds (slice_index_or (addresses_of vs) wanted []) (no_ends [] vs) few
    ∙ ap (λ os. Some (os, end_of vs wanted)) (first-back [] vs) in
    text-read text vs (map (λ _. []) vs) wanted are proper (length-map vs (λ _. [])) inside none shape

-- ---- how deep a definition nests

end-depth : (address : List ℕ) → depth (end_data address) ≤ 2
unfolding end_data
end-depth address = omega arith

data-depth : (places : List (List ℕ)) (known : List (List ℕ)) (vs : List Vertex) (last : Data) → depth last ≤ 3 → items_depth (items_of (lined_all places (data_after known vs) ++ last ∷ [])) ≤ 3
data-depth places known [] last low = omega arith
data-depth [] known (v ∷ vs) last low =
    let here : depth (lined [] (vertex_data known v)) ≤ 3 = lined-depth [] (vertex_data known v) (op-depth (addresses_at known v.inputs) v.op) in
    let rest : items_depth (items_of (lined_all [] (data_after (known ++ vertex_address known v ∷ []) vs) ++ last ∷ [])) ≤ 3 = data-depth [] (known ++ vertex_address known v ∷ []) vs last low in
    omega arith
data-depth (lines ∷ places) known (v ∷ vs) last low =
    let here : depth (lined lines (vertex_data known v)) ≤ 3 = lined-depth lines (vertex_data known v) (op-depth (addresses_at known v.inputs) v.op) in
    let rest : items_depth (items_of (lined_all places (data_after (known ++ vertex_address known v ∷ []) vs) ++ last ∷ [])) ≤ 3 = data-depth places (known ++ vertex_address known v ∷ []) vs last low in
    omega arith

pub whole-depth : (graph : GraphValue) (wanted : ℕ) → depth (definition_data graph wanted) ≤ 127
unfolding whole_data
whole-depth graph wanted =
    let low : depth (end_of graph.vertices wanted) ≤ 2 = end-depth (slice_index_or (addresses_of graph.vertices) wanted []) in
    let all : items_depth (items_of (lined_all graph.places (data_after [] graph.vertices) ++ end_of graph.vertices wanted ∷ [])) ≤ 3 = data-depth graph.places [] graph.vertices (end_of graph.vertices wanted) (omega arith) in
    omega arith

-- ---- what the types of its parts keep

proper-push : (xs : List Vertex) (v : Vertex) → AreProper xs → IsProper v.op → AreProper (xs ++ v ∷ [])
proper-push [] v all here = (here, tt)
proper-push (x ∷ xs) v all here = (all.0, proper-push xs v all.1 here)

pub proper-more : (vs : List Vertex) (n : ℕ) (item : Vertex) → n < length vs → item ≡ get_or vs n item → AreProper (take n vs) → IsProper item.op → AreProper (take (n + 1) vs)
proper-more vs n item inside is all here =
    subst AreProper (sym (take_more vs n item inside ∙ (λ i. take n vs ++ sym is i ∷ []))) (proper-push (take n vs) item all here)

-- a text that was written is read as what it was written of
pub text-back : (graph : GraphValue) (wanted : ℕ) (ds : List Data) (text : List ℕ) → IsGraph graph → wanted < length graph.vertices
    → (clash_after [] graph.vertices ≡ None) × ((ds ≡ lined_all graph.places (data_after [] graph.vertices) ++ end_of graph.vertices wanted ∷ []) × AreProper graph.vertices)
    → IsTextOf (whole_data 2 ds) text → IsReadAs text (Ok (graph, wanted))
text-back graph wanted ds text are inside put is =
    let low : depth (whole_data 2 ds) ≤ 127 = subst (λ (xs : List Data). depth (whole_data 2 xs) ≤ 127) (sym put.1.0) (whole-depth graph wanted) in
    round-trip text graph wanted are put.1.1 inside put.0 (is.back low ∙ ap (λ xs. Some (whole_data 2 xs)) put.1.0)
