-- A definition's data holds no float, so that its compact text is the one that is written; and what a definition's writing comes to.
use Rattle.std.specs.Prelude.{◌≡◌, ℕ, false, List, [], ◌∷◌, ◌++◌, length, take, drop, Some, None, Ok, Err, is_some, true, cond, ◌+◌, ◌<◌, ◌≤◌, slice_index_or, get_or}
use Rattle.std.proofs.Common.{refl, ap, sym, ◌∙◌, subst, append_assoc, append-nil}
use Rattle.std.proofs.lemmas.List.{drop_more, drop_all, take_all, length_push}
use Rattle.serde_json.specs.Data.{Data}
use Rattle.serde_json.specs.View.{items_of}
use Rattle.serde_json.specs.Written.{has_float, items_have_float, compact_text}
use Rattle.llb.specs.declared.vertex.Vertex.{Vertex}
use Rattle.llb.specs.Graph.{GraphValue}
use Rattle.operations.proofs.PlainFacts.{op_plain}
use Rattle.plain.specs.declared.fault.Fault.{Fault}
use Rattle.plain.specs.declared.fault.Fault.TheVariants.{Because, Memory}
use Rattle.addresses.specs.Address.{vertex_data, vertex_address, place_of, data_after, addresses_after, clash_after}
use Rattle.definition.specs.declared.fault.Defect.{Defect}
use Rattle.definition.specs.declared.fault.Defect.TheVariants.{Malformed, Unknown, Repeated, Clash}
use Rattle.definition.specs.Definition.{AreProper, IsWritten, end_data, whole_data, end_of, definition_data}
use Rattle.definition.specs.PrivateWriting.{IsAdded, IsNamed, AreAllPut, IsClash, IsTextOf}
use Rattle.definition.specs.Lines.{lined, lined_all}
use Rattle.definition.proofs.LinesFacts.{lined-plain, lined_all-next}

pub end_plain : (address : List ℕ) → has_float (end_data address) ≡ false
unfolding end_data
end_plain address = refl

pub data_plain : (places : List (List ℕ)) (known : List (List ℕ)) (vertices : List Vertex) (last : Data) → has_float last ≡ false → items_have_float (items_of (lined_all places (data_after known vertices) ++ last ∷ [])) ≡ false
data_plain places known [] last h = rw h refl
data_plain [] known (v ∷ vs) last h = rw (lined-plain [] (vertex_data known v) (op_plain _ v.op)) (data_plain [] (known ++ vertex_address known v ∷ []) vs last h)
data_plain (lines ∷ places) known (v ∷ vs) last h = rw (lined-plain lines (vertex_data known v) (op_plain _ v.op)) (data_plain places (known ++ vertex_address known v ∷ []) vs last h)

pub whole_plain : (ds : List Data) → items_have_float (items_of ds) ≡ false → has_float (whole_data 2 ds) ≡ false
unfolding whole_data
whole_plain ds h = rw h refl

-- what is written so far, and what is still to be written, with the lines that are left for it
pub record IsWriting (known : List (List ℕ)) (written : List Data) (rest all : List Vertex) (left places : List (List ℕ)) : Type 0 where
  pub addresses : addresses_after known rest ≡ addresses_after [] all
  pub operations : written ++ lined_all left (data_after known rest) ≡ lined_all places (data_after [] all)
  pub clash : clash_after known rest ≡ clash_after [] all

pub writing-start : (all : List Vertex) (places : List (List ℕ)) → IsWriting [] [] all all places places
writing-start all places = record { addresses = refl; operations = refl; clash = refl }

-- one vertex more is written
pub writing-step : (known : List (List ℕ)) (ds : List Data) (rest rest' all : List Vertex) (v : Vertex) (places : List (List ℕ)) (n : ℕ) → IsWriting known ds rest all (drop n places) places → rest ≡ v ∷ rest' → is_some (place_of known (vertex_address known v)) ≡ false
    → IsWriting (known ++ vertex_address known v ∷ []) (ds ++ lined (slice_index_or places n []) (vertex_data known v) ∷ []) rest' all (drop (n + 1) places) places
writing-step known ds rest rest' all v places n so_far next fresh = record {
  addresses = ap (addresses_after known) (sym next) ∙ so_far.addresses;
  operations =
      append_assoc ds (lined (slice_index_or places n []) (vertex_data known v) ∷ []) (lined_all (drop (n + 1) places) (data_after (known ++ vertex_address known v ∷ []) rest'))
      ∙ ap (λ r. ds ++ r) (sym (lined_all-next places n (vertex_data known v) (data_after (known ++ vertex_address known v ∷ []) rest')))
      ∙ ap (λ r. ds ++ lined_all (drop n places) (data_after known r)) (sym next)
      ∙ so_far.operations;
  clash = (λ i. cond (sym fresh i) (Some (length known)) (clash_after (known ++ vertex_address known v ∷ []) rest')) ∙ ap (clash_after known) (sym next) ∙ so_far.clash;
}

-- a vertex that has an address before it
pub writing-clash : (known : List (List ℕ)) (ds : List Data) (rest rest' all : List Vertex) (v : Vertex) (left places : List (List ℕ)) → IsWriting known ds rest all left places → rest ≡ v ∷ rest' → is_some (place_of known (vertex_address known v)) ≡ true → clash_after [] all ≡ Some (length known)
writing-clash known ds rest rest' all v left places so_far next found =
    sym so_far.clash ∙ ap (clash_after known) next ∙ (λ i. cond (found i) (Some (length known)) (clash_after (known ++ vertex_address known v ∷ []) rest'))

-- what is left from a number on
pub rest-at : (all : List Vertex) (n : ℕ) (item : Vertex) → n < length all → item ≡ get_or all n item → drop n all ≡ item ∷ drop (n + 1) all
rest-at all n item inside is = drop_more all n item inside ∙ (λ i. sym is i ∷ drop (n + 1) all)

-- what is there once one vertex more is put
pub writing-put : (all : List Vertex) (places : List (List ℕ)) (n : ℕ) (item : Vertex) (lines : List ℕ) (known new : List (List ℕ)) (ds put : List Data)
    → IsWriting known ds (drop n all) all (drop n places) places → length known ≡ n → n < length all → item ≡ get_or all n item → lines ≡ slice_index_or places n []
    → IsAdded (vertex_data known item) known new → put ≡ ds ++ lined lines (vertex_data known item) ∷ []
    → IsWriting new put (drop (n + 1) all) all (drop (n + 1) places) places × (length new ≡ n + 1)
writing-put all places n item lines known new ds put so_far count inside is lines-is added put-is =
    let next = writing-step known ds (drop n all) (drop (n + 1) all) all item places n so_far (rest-at all n item inside is) (ap is_some added.0) in
    let same : put ≡ ds ++ lined (slice_index_or places n []) (vertex_data known item) ∷ [] = put-is ∙ (λ i. ds ++ lined (lines-is i) (vertex_data known item) ∷ []) in (
      subst (λ (k : List (List ℕ)). IsWriting k put (drop (n + 1) all) all (drop (n + 1) places) places) (sym added.1)
          (subst (λ (k : List Data). IsWriting (known ++ vertex_address known item ∷ []) k (drop (n + 1) all) all (drop (n + 1) places) places) (sym same) next),
      ap length added.1 ∙ length_push known (vertex_address known item) ∙ ap (λ k. k + 1) count,
    )

-- the fault of one vertex is the graph's
pub fault-put : (graph : GraphValue) (n : ℕ) (item : Vertex) (known new : List (List ℕ)) (ds : List Data) (fault : Fault Defect)
    → IsWriting known ds (drop n graph.vertices) graph.vertices (drop n graph.places) graph.places → n < length graph.vertices → item ≡ get_or graph.vertices n item
    → IsNamed (vertex_data known item) known new (Err fault) → IsClash graph fault
fault-put graph n item known new ds (Because (Clash place)) so_far inside is named =
    writing-clash known ds (drop n graph.vertices) (drop (n + 1) graph.vertices) graph.vertices item (drop n graph.places) graph.places so_far
    (rest-at graph.vertices n item inside is) (ap is_some named.1.1) ∙ ap Some (sym named.0)
fault-put graph n item known new ds (Because (Malformed place)) so_far inside is none = none
fault-put graph n item known new ds (Because (Unknown place)) so_far inside is none = none
fault-put graph n item known new ds (Because (Repeated place)) so_far inside is none = none
fault-put graph n item known new ds Memory so_far inside is said = said

-- past the last vertex all are put
pub all-put : (graph : GraphValue) (n : ℕ) (known : List (List ℕ)) (ds : List Data)
    → IsWriting known ds (drop n graph.vertices) graph.vertices (drop n graph.places) graph.places → length graph.vertices ≤ n → AreProper (take n graph.vertices)
    → AreAllPut graph known ds
all-put graph n known ds so_far past proper = record {
  clear = sym so_far.clash ∙ (λ i. clash_after known (none i));
  addresses = (λ i. addresses_after known (sym none i)) ∙ so_far.addresses;
  operations = sym (append-nil ds) ∙ (λ i. ds ++ lined_all (drop n graph.places) (data_after known (sym none i))) ∙ so_far.operations;
  proper = subst AreProper (take_all n graph.vertices past) proper;
}
  where
    none : drop n graph.vertices ≡ []
    none = drop_all n graph.vertices past

-- with the end it is the definition
pub whole-put : (graph : GraphValue) (wanted : ℕ) (known : List (List ℕ)) (ds put : List Data) (last : Data) (name : List ℕ) → AreAllPut graph known ds
    → name ≡ slice_index_or known wanted [] → last ≡ end_data name → put ≡ ds ++ last ∷ []
    → (clash_after [] graph.vertices ≡ None) × ((put ≡ lined_all graph.places (data_after [] graph.vertices) ++ end_of graph.vertices wanted ∷ []) × AreProper graph.vertices)
whole-put graph wanted known ds put last name all name-is last-is put-is = (
  all.clear,
  (put-is ∙ (λ i. all.operations i ++ (last-is ∙ ap end_data (name-is ∙ (λ j. slice_index_or (all.addresses j) wanted []))) i ∷ []), all.proper),
)

-- what is written is the definition's text
pub text-written : (graph : GraphValue) (wanted : ℕ) (ds : List Data) (text : List ℕ)
    → (clash_after [] graph.vertices ≡ None) × ((ds ≡ lined_all graph.places (data_after [] graph.vertices) ++ end_of graph.vertices wanted ∷ []) × AreProper graph.vertices)
    → IsTextOf (whole_data 2 ds) text → IsWritten graph wanted (Ok text)
text-written graph wanted ds text put is =
    let plain : has_float (definition_data graph wanted) ≡ false = whole_plain _ (data_plain graph.places [] graph.vertices (end_of graph.vertices wanted) (end_plain _)) in
    (put.0, is.compact (ap (λ xs. has_float (whole_data 2 xs)) put.1.0 ∙ plain) ∙ ap (λ xs. compact_text (whole_data 2 xs)) put.1.0)

pub clash-written : (graph : GraphValue) (wanted : ℕ) (fault : Fault Defect) → IsClash graph fault → IsWritten graph wanted (Err fault)
clash-written graph wanted (Because (Clash place)) is = is
clash-written graph wanted (Because (Malformed place)) none = none
clash-written graph wanted (Because (Unknown place)) none = none
clash-written graph wanted (Because (Repeated place)) none = none
clash-written graph wanted Memory said = said
