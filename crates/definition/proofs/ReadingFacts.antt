-- From the steps of reading one operation to what it tells.
use Rattle.std.specs.Prelude.{◌≡◌, ◌<◌, ◌≤◌, ◌+◌, ℕ, suc, map, Bool, true, false, cond, ◌⊎◌, Option, Some, None, Result, Ok, Err, List, [], ◌∷◌, ◌++◌, length, slice_get, slice_index_or, is_some, bytes_eq}
use Rattle.std.proofs.Common.{sym, ap, refl, ◌∙◌, subst, true≢false, arith, inl, inr}
use Rattle.std.specs.Option.{option_map, unwrap_or}
use Rattle.std.proofs.lemmas.Option.{slice_get-get_or, slice_get_within}
use Rattle.std.proofs.lemmas.List.{length_push}
use Rattle.serde_json.specs.Data.{Data}
use Rattle.serde_json.specs.View.{view}
use Rattle.serde_json.specs.declared.value.Value.{Value}
use Rattle.definition.specs.Lines.{operation_in}
use Rattle.llb.specs.declared.vertex.Vertex.{Vertex}
use Rattle.llb.specs.Graph.{GraphValue, AreVertices, IsNew, IsFound, IsAppended}
use Rattle.plain.specs.declared.fault.Fault.{Fault}
use Rattle.plain.specs.declared.fault.Fault.TheVariants.{Because, Memory}
use Rattle.plain.specs.Limits.{most_vertices}
use Rattle.definition.specs.declared.fault.Defect.{Defect}
use Rattle.definition.specs.declared.fault.Defect.TheVariants.{Malformed, Unknown, Repeated, Clash}
use Rattle.operations.specs.declared.spelled.Spelled.{Spelled}
use Rattle.operations.specs.Texts.{op_data}
use Rattle.addresses.specs.Address.{address_of, addresses_at, addresses_of, vertex_address, place_of, places_of, AreOnce}
use Rattle.definition.proofs.AddressFacts.{address_of-is, length-addresses_after, addresses_after-append}
use Rattle.strict.specs.Strict.{with_first}
use Rattle.definition.specs.Reading.{Operations, named_in, address_place, IsNext, IsReadAfter, grown, no_graph}
use Rattle.definition.specs.PrivateReading.{IsPlaced, IsAllRead, IsOneRead}
use Rattle.addresses.proofs.PlaceFacts.{same_bytes}

none_some : {A : Type 0} (x : A) → None ≡ Some x → ⊥
none_some x e = true≢false (sym (ap is_some e))

some_same : {A : Type 0} (x y : A) → Some x ≡ Some y → x ≡ y
some_same x y e = ap (λ o. unwrap_or o x) e

-- at the place of an address it stands
pub at-place : (known : List (List ℕ)) (a : List ℕ) (k : ℕ) → place_of known a ≡ Some k → slice_index_or known k [] ≡ a
at-place [] a k e = absurd (none_some k e)
at-place (b ∷ known) a k e = by (bytes_eq b a) refl (place_of known a) (λ n is. at-place known a n is) e
  where
    by : (t : Bool) → bytes_eq b a ≡ t → (o : Option ℕ) → ((n : ℕ) → o ≡ Some n → slice_index_or known n [] ≡ a) → cond t (Some 0) (option_map (λ place. place + 1) o) ≡ Some k → slice_index_or (b ∷ known) k [] ≡ a
    by true t o deeper e = subst (λ (n : ℕ). slice_index_or (b ∷ known) n [] ≡ a) (some_same 0 k e) (same_bytes b a t)
    by false t None deeper e = absurd (none_some k e)
    by false t (Some n) deeper e =
        let next : suc n ≡ k = (let s : suc n ≡ n + 1 = omega arith in s) ∙ some_same (n + 1) k e in
        subst (λ (m : ℕ). slice_index_or (b ∷ known) m [] ≡ a) next (deeper n refl)

-- the addresses of the vertices that were found are those that were asked
pub named-back : (known : List (List ℕ)) (addresses : List (List ℕ)) (ids : List ℕ) → places_of known addresses ≡ Some ids → addresses_at known ids ≡ addresses
named-back known [] ids e = ap (addresses_at known) (sym (some_same [] ids e))
named-back known (a ∷ more) ids e = by (place_of known a) refl (places_of known more) (λ ks is. named-back known more ks is) e
  where
    by : (o : Option ℕ) → place_of known a ≡ o → (r : Option (List ℕ)) → ((ks : List ℕ) → r ≡ Some ks → addresses_at known ks ≡ more) → with_first o r ≡ Some ids → addresses_at known ids ≡ a ∷ more
    by None o r rest e = absurd (none_some ids e)
    by (Some k) o None rest e = absurd (none_some ids e)
    by (Some k) o (Some ks) rest e = ap (addresses_at known) (sym (some_same (k ∷ ks) ids e)) ∙ (λ i. at-place known a k o i ∷ rest ks refl i)

-- a vertex that stands in the graph is found by its address
pub stands-place : (vs : List Vertex) (vertex : Vertex) (k : ℕ) → AreVertices vs → AreOnce (addresses_of vs) → slice_get vs k ≡ Some vertex → address_place vs vertex ≡ Some k
stands-place vs vertex k are once there =
    let inside : k < length vs = slice_get_within vs k vertex there in
    let long : length (addresses_of vs) ≡ 0 + length vs = length-addresses_after [] vs in
    let within : k < length (addresses_of vs) = omega arith in
    once.at k (vertex_address (addresses_of vs) vertex) (slice_get-get_or (addresses_of vs) k [] within ∙ ap Some (address_of-is vs k vertex there (are.after k vertex there)))

module _ (vs : List Vertex) (known : List (List ℕ)) (told : Spelled) (a b : List (List ℕ)) (found : Option (List ℕ)) (ids : List ℕ) (d : Data) (address : List ℕ) (place : Option ℕ)
    (are : AreVertices vs) (once : AreOnce known) (same : known ≡ addresses_of vs) (first : a ≡ told.inputs) (second : b ≡ told.inputs) (found-is : found ≡ places_of known a) (there : found ≡ Some ids)
    (data-is : d ≡ op_data b told.op) (address-is : address ≡ address_of d) (place-is : place ≡ place_of known address) where
  places : places_of (addresses_of vs) told.inputs ≡ Some ids
  places = (λ i. places_of (sym same i) (sym first i)) ∙ sym found-is ∙ there

  pub named : named_in (addresses_of vs) told ≡ Some (record { op = told.op; inputs = ids })
  named = ap (option_map (λ (is : List ℕ). record { op = told.op; inputs = is })) places

  pub address-vertex : address ≡ vertex_address (addresses_of vs) (record { op = told.op; inputs = ids })
  address-vertex = address-is ∙ ap address_of (data-is ∙ (λ i. op_data ((second ∙ sym (named-back (addresses_of vs) told.inputs ids places)) i) told.op))

  pub place-vertex : place ≡ address_place vs (record { op = told.op; inputs = ids })
  place-vertex = place-is ∙ (λ i. place_of (same i) (address-vertex i))

  known-once : AreOnce (addresses_of vs)
  known-once = subst AreOnce same once

  pub placed-new : place ≡ None → IsPlaced vs told (Ok (record { op = told.op; inputs = ids }))
  placed-new none = (named, ((λ k h. none_some k (sym (sym place-vertex ∙ none) ∙ stands-place vs _ k are known-once h)), sym place-vertex ∙ none))

  pub placed-again : (n at : ℕ) → n ≡ length vs → slice_get vs at ≡ Some (record { op = told.op; inputs = ids }) → IsPlaced vs told (Err (Because (Repeated n)))
  placed-again n at count stands = (count, (record { op = told.op; inputs = ids }, (named, (at, stands))))

  pub placed-clash : (n at : ℕ) → n ≡ length vs → place ≡ Some at → (slice_get vs at ≡ Some (record { op = told.op; inputs = ids }) → ⊥) → IsPlaced vs told (Err (Because (Clash n)))
  placed-clash n at count here other = (
    count,
    (
      record { op = told.op; inputs = ids },
      (
        named,
        (
          (λ k h. other (subst (λ (m : ℕ). slice_get vs m ≡ Some (record { op = told.op; inputs = ids })) (some_same k at (sym (stands-place vs _ k are known-once h) ∙ sym place-vertex ∙ here)) h)),
          ap is_some (sym place-vertex ∙ here),
        ),
      ),
    ),
  )

-- one more vertex has one more address
pub addresses-with : (vs : List Vertex) (v : Vertex) → addresses_of (vs ++ v ∷ []) ≡ addresses_of vs ++ vertex_address (addresses_of vs) v ∷ []
addresses-with vs v = addresses_after-append [] vs (v ∷ [])

pub addresses-count : (vs : List Vertex) → length (addresses_of vs) ≡ length vs
addresses-count vs = let long : length (addresses_of vs) ≡ 0 + length vs = length-addresses_after [] vs in omega arith

-- the addresses after a vertex was added that is new
pub with-addresses : (old value new : GraphValue) (v : Vertex) (lines : List ℕ) (id : ℕ) (known known' : List (List ℕ)) (address : List ℕ) → IsFound old new v lines id ⊎ IsAppended old new v lines id → old ≡ value → IsNew value.vertices v → known ≡ addresses_of old.vertices → address ≡ vertex_address (addresses_of value.vertices) v
    → known' ≡ known ++ address ∷ [] → known' ≡ addresses_of new.vertices
with-addresses old value new v lines id known known' address (inl found) view fresh same is more = absurd (fresh id (ap (λ (g : GraphValue). slice_get g.vertices id) (sym view) ∙ found.stood))
with-addresses old value new v lines id known known' address (inr appended) view fresh same is more =
    more ∙ (λ i. (same ∙ ap (λ (g : GraphValue). addresses_of g.vertices) view) i ++ is i ∷ []) ∙ sym (addresses-with value.vertices v)
    ∙ (λ i. addresses_of ((sym view i).vertices ++ v ∷ [])) ∙ ap (λ (g : GraphValue). addresses_of g.vertices) (sym appended.added)

pub with-few : (old value : GraphValue) (known : List (List ℕ)) → old ≡ value → known ≡ addresses_of old.vertices → length value.vertices < most_vertices → length known < most_vertices
with-few old value known view same few =
    let count : length known ≡ length value.vertices = ap length same ∙ addresses-count old.vertices ∙ ap (λ (g : GraphValue). length g.vertices) view in omega arith

-- what the operations that are left tell after this graph, all of them tell
pub record IsReading (now : GraphValue) (rest all : Operations) : Type 0 where
  pub continues : (told : Result GraphValue (Fault Defect)) → IsReadAfter now rest told → IsReadAfter no_graph all told

pub reading-start : (all : Operations) → IsReading no_graph all all
reading-start all = record { continues = λ told h. h }

read-one : (now : GraphValue) (o : Data × List ℕ) (rest : Operations) (vertex : Vertex) (told : Result GraphValue (Fault Defect)) → IsNext now.vertices o.0 (Ok vertex) → IsReadAfter (grown now vertex o.1) rest told → IsReadAfter now (o ∷ rest) told
read-one now o rest vertex (Ok after) next h = (vertex, (next, h))
read-one now o rest vertex (Err fault) next h = inr (vertex, (next, h))

-- one operation more is read
pub reading-step : (now next : GraphValue) (o : Data × List ℕ) (rest rest' all : Operations) (vertex : Vertex) → IsReading now rest all → rest ≡ o ∷ rest' → IsNext now.vertices o.0 (Ok vertex) → next ≡ grown now vertex o.1 → IsReading next rest' all
reading-step now next o rest rest' all vertex so_far is spelled more = record {
  continues = λ told h. so_far.continues told (subst (λ (l : Operations). IsReadAfter now l told) (sym is) (read-one now o rest' vertex told spelled (subst (λ (g : GraphValue). IsReadAfter g rest' told) more h)));
}

-- the same of what is left to be read, and of how many vertices there are then
pub reading-on : {A : Type 0} (operation : A → Data × List ℕ) (xs left : List A) (x : A) (now next : GraphValue) (all : Operations) → IsReading now (map operation xs) all × (length now.vertices + length xs ≤ most_vertices) → xs ≡ x ∷ left → IsOneRead now (operation x) (Ok next)
    → IsReading next (map operation left) all × (length next.vertices + length left ≤ most_vertices)
reading-on operation xs left x now next all so_far is read =
    let count : length next.vertices ≡ length now.vertices + 1 = ap (λ (g : GraphValue). length g.vertices) read.1.1 ∙ length_push now.vertices read.0 in
    let more : length xs ≡ suc (length left) = ap length is in
    let few = so_far.1 in (
      reading-step now next (operation x) (map operation xs) (map operation left) all read.0 so_far.0 (ap (map operation) is) read.1.0 read.1.1,
      omega (arith, count, more, few),
    )

pub reading-room : {A : Type 0} (xs left : List A) (x : A) (n : ℕ) → n + length xs ≤ most_vertices → xs ≡ x ∷ left → n < most_vertices
reading-room xs left x n few is = let more : length xs ≡ suc (length left) = ap length is in omega (arith, few, more)

-- an operation that tells a fault
pub reading-fault : (now : GraphValue) (o : Data × List ℕ) (rest rest' all : Operations) (fault : Fault Defect) → IsReading now rest all → rest ≡ o ∷ rest' → IsNext now.vertices o.0 (Err fault) → IsAllRead all (Err fault)
reading-fault now o rest rest' all (Because (Malformed n)) so_far is told = so_far.continues (Err (Because (Malformed n))) (subst (λ (l : Operations). IsReadAfter now l (Err (Because (Malformed n)))) (sym is) (inl told))
reading-fault now o rest rest' all (Because (Unknown n)) so_far is told = so_far.continues (Err (Because (Unknown n))) (subst (λ (l : Operations). IsReadAfter now l (Err (Because (Unknown n)))) (sym is) (inl told))
reading-fault now o rest rest' all (Because (Repeated n)) so_far is told = so_far.continues (Err (Because (Repeated n))) (subst (λ (l : Operations). IsReadAfter now l (Err (Because (Repeated n)))) (sym is) (inl told))
reading-fault now o rest rest' all (Because (Clash n)) so_far is told = so_far.continues (Err (Because (Clash n))) (subst (λ (l : Operations). IsReadAfter now l (Err (Because (Clash n)))) (sym is) (inl told))
reading-fault now o rest rest' all Memory so_far is told = tt

pub reading-end : (now : GraphValue) (rest all : Operations) → IsReading now rest all → rest ≡ [] → IsReadAfter no_graph all (Ok now)
reading-end now rest all so_far none = so_far.continues (Ok now) (subst (λ (l : Operations). IsReadAfter now l (Ok now)) (sym none) refl)

-- ---- values that are operations with their lines

abbrev pub said : Bool → Value → Data × List ℕ
said says v = operation_in says (view v)

fused : (says : Bool) (vs : List Value) → map (said says) vs ≡ map (operation_in says) (map view vs)
fused says [] = refl
fused says (v ∷ vs) = ap (λ (os : Operations). said says v ∷ os) (fused says vs)

pub values-start : (says : Bool) (vs items : List Value) (now : GraphValue) → now ≡ no_graph → vs ≡ items → length items ≤ most_vertices
    → IsReading now (map (said says) vs) (map (said says) vs) × (length now.vertices + length vs ≤ most_vertices)
values-start says vs items now none same few =
    let count : length vs ≡ length items = ap (λ (xs : List Value). length xs) same in
    let empty : length now.vertices ≡ 0 = ap (λ (g : GraphValue). length g.vertices) none in (
      subst (λ (g : GraphValue). IsReading g (map (said says) vs) (map (said says) vs)) (sym none) (reading-start (map (said says) vs)),
      omega (arith, count, empty, few),
    )

pub values-end : (says : Bool) (rest all items : List Value) (now : GraphValue) → IsReading now (map (said says) rest) (map (said says) all) × (length now.vertices + length rest ≤ most_vertices) → length rest ≡ 0 → all ≡ items
    → IsReadAfter no_graph (map (operation_in says) (map view items)) (Ok now)
values-end says [] all items now so_far none same =
    subst (λ (os : Operations). IsReadAfter no_graph os (Ok now)) (ap (λ (vs : List Value). map (said says) vs) same ∙ fused says items) (reading-end now [] (map (said says) all) so_far.0 refl)
values-end says (v ∷ rest) all items now so_far none same = absurd (omega (arith, none))

pub values-fault : (says : Bool) (rest left all items : List Value) (v : Value) (now : GraphValue) (fault : Fault Defect) → IsReading now (map (said says) rest) (map (said says) all) × (length now.vertices + length rest ≤ most_vertices)
    → rest ≡ v ∷ left → all ≡ items → IsOneRead now (said says v) (Err fault) → IsAllRead (map (operation_in says) (map view items)) (Err fault)
values-fault says rest left all items v now fault so_far is same told =
    subst (λ (os : Operations). IsAllRead os (Err fault)) (ap (λ (vs : List Value). map (said says) vs) same ∙ fused says items)
    (reading-fault now (said says v) (map (said says) rest) (map (said says) left) (map (said says) all) fault so_far.0 (ap (λ (vs : List Value). map (said says) vs) is) told)
