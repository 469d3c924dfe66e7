-- The shape of a definition, by what the code's steps tell.
use Rattle.std.specs.Prelude.{◌≡◌, ◌<◌, ◌≤◌, ◌+◌, ◌||◌, ℕ, suc, Bool, true, false, cond, Option, Some, None, List, [], ◌∷◌, ◌++◌, map, length, nat_le, is_some, bytes_eq, codes, zero, Ok, Err}
use Rattle.std.proofs.Common.{sym, ap, refl, ◌∙◌, subst, true≢false, arith, inr}
use Rattle.std.specs.Option.{option_map, option_and_then, option_to_list, unwrap_or}
use Rattle.std.specs.List.{list_any, All}
use Rattle.std.proofs.lemmas.Bool.{leb-true}
use Rattle.std.proofs.lemmas.List.{map-append, length-map}
use Rattle.serde_json.specs.Data.{Data, Members}
use Rattle.serde_json.specs.Read.{read}
use Rattle.serde_json.specs.Find.{get, as_str}
use Rattle.serde_json.specs.View.{view, items_of}
use Rattle.serde_json.specs.declared.value.Value.{Value, Array, Object}
use Rattle.serde_json.proofs.Views.{view-Array, view-Object, view-lookup}
use Rattle.std.specs.Map.{lookup}
use Rattle.std.specs.BTreeMap.{is_at}
use Rattle.std.specs.Cmp.Lexicographic.{slice_cmp}
use Rattle.std.proofs.Common.{String, Vec, BTreeMap, Global, string_bytes, nat_cmp}
use Rattle.llb.specs.declared.op.Op.{Op}
use Rattle.llb.specs.declared.vertex.Vertex.{Vertex}
use Rattle.llb.specs.Graph.{GraphValue, IsAfterInputs}
use Rattle.plain.specs.declared.fault.Fault.{Fault}
use Rattle.plain.specs.declared.fault.Fault.TheVariants.{Because, Memory}
use Rattle.plain.specs.Limits.{most_vertices}
use Rattle.definition.specs.declared.fault.Defect.{Defect}
use Rattle.definition.specs.declared.fault.Defect.TheVariants.{Malformed, Unknown, Repeated, Clash}
use Rattle.llb.specs.WellFormed.{is_well_formed, is_well_formed_on}
use Rattle.operations.specs.declared.spelled.Spelled.{Spelled}
use Rattle.addresses.specs.Address.{addresses_of, place_of, places_of}
use Rattle.strict.specs.Strict.{with_first, strict}
use Rattle.operations.specs.Spelled.{spelled_in, op_of, inputs_in}
use Rattle.definition.specs.Lines.{operation_in}
use Rattle.definition.specs.Reading.{Operations, parted, parted_few, parts_in, version_in, is_end, as_list, few_of, list_of, Spells, parts_of, no_graph, IsReadAfter, IsEnd, IsReadAs}
use Rattle.definition.proofs.KeyFacts.{any-map}
use Rattle.definition.proofs.ReadingFacts.{addresses-count}

pub list-items : (ds : List Data) → list_of (items_of ds) ≡ ds
list-items [] = refl
list-items (d ∷ ds) = ap (λ l. d ∷ l) (list-items ds)

-- the list at a key of an object, by what was taken out of it
pub object-list : (key : List ℕ) (value : Value) (members : BTreeMap (String Global) Value) (found : Option Value) → value ≡ Object members
    → found ≡ lookup (is_at (λ k. slice_cmp nat_cmp key (string_bytes k))) members.entries → option_and_then as_list (option_map view found) ≡ option_and_then as_list (get key (view value))
object-list key value members found is taken =
    ap (λ (o : Option Data). option_and_then as_list o) (ap (λ (o : Option Value). option_map view o) taken ∙ view-lookup key members.entries ∙ sym (ap (λ (d : Data). get key d) (ap view is ∙ view-Object members)))

pub array-list : (value : Value) (values : Vec Value Global) → value ≡ Array values → Some (map view values.items) ≡ as_list (view value)
array-list value values is = ap (λ (ds : List Data). Some ds) (sym (list-items (map view values.items))) ∙ sym (ap as_list (ap view is ∙ view-Array values))

part-step : (b : Bool) (d : Data) (ds : List Data) (e : Data) (any last : Bool) (rest : Option (List Data × Data)) → rest ≡ cond {A = Option (List Data × Data)} any None (cond {A = Option (List Data × Data)} last (Some (ds, e)) None)
    → cond {A = Option (List Data × Data)} b None (option_map (λ (parts : List Data × Data). (d ∷ parts.0, parts.1)) rest) ≡ cond {A = Option (List Data × Data)} (b || any) None (cond {A = Option (List Data × Data)} last (Some (d ∷ ds, e)) None)
part-step true d ds e any last rest is = refl
part-step false d ds e true last rest is = ap (option_map (λ (parts : List Data × Data). (d ∷ parts.0, parts.1))) is
part-step false d ds e false true rest is = ap (option_map (λ (parts : List Data × Data). (d ∷ parts.0, parts.1))) is
part-step false d ds e false false rest is = ap (option_map (λ (parts : List Data × Data). (d ∷ parts.0, parts.1))) is

pub parted-last : (ds : List Data) (e : Data) → parted (ds ++ e ∷ []) ≡ cond {A = Option (List Data × Data)} (list_any is_end ds) None (cond {A = Option (List Data × Data)} (is_end e) (Some (ds, e)) None)
parted-last [] e = refl
parted-last (d ∷ []) e = part-step (is_end d) d [] e false (is_end e) _ refl
parted-last (d ∷ next ∷ ds) e = part-step (is_end d) d (next ∷ ds) e (list_any is_end (next ∷ ds)) (is_end e) _ (parted-last (next ∷ ds) e)

-- a list from whose end a value was taken
pub ended : {A : Type 0} (all xs : List A) (taken : Option A) (x : A) → all ≡ xs ++ option_to_list taken → taken ≡ Some x → all ≡ xs ++ x ∷ []
ended all xs taken x is some = is ∙ ap (λ o. xs ++ option_to_list o) some

module _ {A : Type 0} (view : A → Data) (all xs : List A) (x : A) (is : all ≡ xs ++ x ∷ []) where
  whole : parted (map view all) ≡ cond {A = Option (List Data × Data)} (list_any is_end (map view xs)) None (cond {A = Option (List Data × Data)} (is_end (view x)) (Some (map view xs, view x)) None)
  whole = (λ i. parted (map view (is i))) ∙ (λ i. parted (map-append view xs (x ∷ []) i)) ∙ parted-last (map view xs) (view x)

  pub parted-has : (told : Bool) → told ≡ list_any (λ v. is_end (view v)) xs → told ≡ true → ◌≡◌ {A = Option (List Data × Data)} None (parted (map view all))
  parted-has told said held = sym (whole ∙ (λ i. cond {A = Option (List Data × Data)} ((any-map is_end view xs ∙ sym said ∙ held) i) None (cond {A = Option (List Data × Data)} (is_end (view x)) (Some (map view xs, view x)) None)))

  open_part : (told : Bool) → told ≡ list_any (λ v. is_end (view v)) xs → told ≡ false → parted (map view all) ≡ cond {A = Option (List Data × Data)} (is_end (view x)) (Some (map view xs, view x)) None
  open_part told said held = whole ∙ (λ i. cond {A = Option (List Data × Data)} ((any-map is_end view xs ∙ sym said ∙ held) i) None (cond {A = Option (List Data × Data)} (is_end (view x)) (Some (map view xs, view x)) None))

  pub parted-none : (told end : Bool) → told ≡ list_any (λ v. is_end (view v)) xs → told ≡ false → end ≡ is_end (view x) → end ≡ false → ◌≡◌ {A = Option (List Data × Data)} None (parted (map view all))
  parted-none told end said held last none = sym (open_part told said held ∙ (λ i. cond {A = Option (List Data × Data)} ((sym last ∙ none) i) (Some (map view xs, view x)) None))

  pub parted-some : (told end : Bool) → told ≡ list_any (λ v. is_end (view v)) xs → told ≡ false → end ≡ is_end (view x) → end ≡ true → ◌≡◌ {A = Option (List Data × Data)} (Some (map view xs, view x)) (parted (map view all))
  parted-some told end said held last yes_end = sym (open_part told said held ∙ (λ i. cond {A = Option (List Data × Data)} ((sym last ∙ yes_end) i) (Some (map view xs, view x)) None))

none_some : {A : Type 0} (x : A) → None ≡ Some x → ⊥
none_some x e = true≢false (sym (ap is_some e))

some_same : {A : Type 0} (x y : A) → Some x ≡ Some y → x ≡ y
some_same x y e = ap (λ o. unwrap_or o x) e

-- ---- what was spelled is well formed, and its inputs stand before it

formed-by : (X : Option Op) (Y : Option (List (List ℕ))) (told : Spelled) → option_and_then (λ op. option_and_then (λ inputs. cond (is_well_formed_on op (length inputs)) (Some (record { op = op; inputs = inputs })) None) Y) X ≡ Some told → is_well_formed_on told.op (length told.inputs) ≡ true
formed-by None Y told e = absurd (none_some told e)
formed-by (Some op) None told e = absurd (none_some told e)
formed-by (Some op) (Some inputs) told e = by (is_well_formed_on op (length inputs)) refl e
  where
    by : (b : Bool) → is_well_formed_on op (length inputs) ≡ b → cond b (Some (record { op = op; inputs = inputs })) None ≡ Some told → is_well_formed_on told.op (length told.inputs) ≡ true
    by true t e = subst (λ (s : Spelled). is_well_formed_on s.op (length s.inputs) ≡ true) (some_same (record { op = op; inputs = inputs }) told e) t
    by false t e = absurd (none_some told e)

spelled-formed : (d : Data) (told : Spelled) → spelled_in d ≡ Some told → is_well_formed_on told.op (length told.inputs) ≡ true
unfolding spelled_in
spelled-formed d told e = formed-by (option_and_then (λ kind. op_of kind d) (option_and_then as_str (get (codes "op") d))) (inputs_in d) told e

pub place-below : (known : List (List ℕ)) (a : List ℕ) (k : ℕ) → place_of known a ≡ Some k → k < length known
place-below [] a k e = absurd (none_some k e)
place-below (b ∷ known) a k e = by (bytes_eq b a) (place_of known a) (λ n is. place-below known a n is) e
  where
    by : (t : Bool) (o : Option ℕ) → ((n : ℕ) → o ≡ Some n → n < length known) → cond t (Some 0) (option_map (λ place. place + 1) o) ≡ Some k → k < suc (length known)
    by true o deeper e = let s : 0 ≡ k = some_same 0 k e in omega arith
    by false None deeper e = absurd (none_some k e)
    by false (Some n) deeper e = let s : n + 1 ≡ k = some_same (n + 1) k e in let low : n < length known = deeper n refl in omega arith

-- the places that were found are below, and as many as the addresses
pub record AreFound (n : ℕ) (addresses : List (List ℕ)) (ids : List ℕ) : Type 0 where
  pub below : All (λ id. id < n) ids
  pub many : length ids ≡ length addresses

places-found : (known : List (List ℕ)) (addresses : List (List ℕ)) (ids : List ℕ) → places_of known addresses ≡ Some ids → AreFound (length known) addresses ids
places-found known [] ids e = subst (λ (l : List ℕ). AreFound (length known) [] l) (some_same [] ids e) (record { below = λ k d lt. absurd (omega arith); many = refl })
places-found known (a ∷ more) ids e = by (place_of known a) (λ n is. place-below known a n is) (places_of known more) (λ ks is. places-found known more ks is) e
  where
    below_cons : (n k : ℕ) (ks : List ℕ) → k < n → All (λ id. id < n) ks → All (λ id. id < n) (k ∷ ks)
    below_cons n k ks lt all zero d inside = lt
    below_cons n k ks lt all (suc j) d inside = all j d (omega arith)

    by : (o : Option ℕ) → ((n : ℕ) → o ≡ Some n → n < length known) → (r : Option (List ℕ)) → ((ks : List ℕ) → r ≡ Some ks → AreFound (length known) more ks) → with_first o r ≡ Some ids → AreFound (length known) (a ∷ more) ids
    by None low r rest e = absurd (none_some ids e)
    by (Some k) low None rest e = absurd (none_some ids e)
    by (Some k) low (Some ks) rest e =
        let h : AreFound (length known) more ks = rest ks refl in
        subst (λ (l : List ℕ). AreFound (length known) (a ∷ more) l) (some_same (k ∷ ks) ids e) (record { below = below_cons (length known) k ks (low k refl) h.below; many = ap suc h.many })

named-parts : (told : Spelled) (vertex : Vertex) (o : Option (List ℕ)) → option_map (λ (ids : List ℕ). record { op = told.op; inputs = ids }) o ≡ Some vertex → (o ≡ Some vertex.inputs) × (told.op ≡ vertex.op)
named-parts told vertex None e = absurd (none_some vertex e)
named-parts told vertex (Some ids) e = let same : record { op = told.op; inputs = ids } ≡ vertex = some_same (record { op = told.op; inputs = ids }) vertex e in (ap (λ (v : Vertex). Some v.inputs) same, ap (λ (v : Vertex). v.op) same)

module _ (before : List Vertex) (d : Data) (vertex : Vertex) (spells : Spells before d vertex) where
  found : AreFound (length (addresses_of before)) spells.told.inputs vertex.inputs
  found = places-found (addresses_of before) spells.told.inputs vertex.inputs (named-parts spells.told vertex (places_of (addresses_of before) spells.told.inputs) spells.named).0

  pub spells-after : IsAfterInputs (length before) vertex
  spells-after = subst (λ (n : ℕ). All (λ id. id < n) vertex.inputs) (addresses-count before) found.below

  pub spells-formed : is_well_formed vertex ≡ true
  spells-formed =
      (λ i. is_well_formed_on (sym (named-parts spells.told vertex (places_of (addresses_of before) spells.told.inputs) spells.named).1 i) (found.many i))
      ∙ spelled-formed d spells.told spells.spelled

-- ---- few operations

few-few : (o : Option (List Data × Data)) (p : List Data × Data) → option_and_then few_of o ≡ Some p → length p.0 ≤ most_vertices
few-few None p e = absurd (none_some p e)
few-few (Some parts) p e = by (nat_le (length parts.0) most_vertices) refl e
  where
    by : (b : Bool) → nat_le (length parts.0) most_vertices ≡ b → cond b (Some parts) None ≡ Some p → length p.0 ≤ most_vertices
    by true t e = subst (λ (q : List Data × Data). length q.0 ≤ most_vertices) (some_same parts p e) (leb-true (length parts.0) most_vertices t)
    by false t e = absurd (none_some p e)

few-parted : (ds : List Data) (p : List Data × Data) → parted_few ds ≡ Some p → length p.0 ≤ most_vertices
unfolding parted_few
few-parted ds p e = few-few (parted ds) p e

few-taken : (says : Bool) (o : Option (List Data × Data)) (p : Operations × Data) → ((q : List Data × Data) → o ≡ Some q → length q.0 ≤ most_vertices)
    → option_map {U = Operations × Data} (λ (parts : List Data × Data). (map (operation_in says) parts.0, parts.1)) o ≡ Some p → length p.0 ≤ most_vertices
few-taken says None p few e = absurd (none_some p e)
few-taken says (Some q) p few e =
    let same : (map (operation_in says) q.0, q.1) ≡ p = some_same _ p e in
    let low : length q.0 ≤ most_vertices = few q refl in
    subst (λ (r : Operations × Data). length r.0 ≤ most_vertices) same (let count : length (map (operation_in says) q.0) ≡ length q.0 = length-map q.0 (operation_in says) in omega arith)

few-listed : (L : Option (List Data)) (q : List Data × Data) → option_and_then parted_few L ≡ Some q → length q.0 ≤ most_vertices
few-listed None q e = absurd (none_some q e)
few-listed (Some ds) q e = few-parted ds q e

few-by : (S : Option Members) (V : Option Bool) (L : Option (List Data)) (p : Operations × Data)
    → option_and_then (λ _. option_and_then (λ says. option_map {U = Operations × Data} (λ (parts : List Data × Data). (map (operation_in says) parts.0, parts.1)) (option_and_then parted_few L)) V) S ≡ Some p → length p.0 ≤ most_vertices
few-by None V L p e = absurd (none_some p e)
few-by (Some ms) None L p e = absurd (none_some p e)
few-by (Some ms) (Some says) L p e = few-taken says (option_and_then parted_few L) p (few-listed L) e

pub parts-few : (d : Data) (n : ℕ) (operations : Operations) (last : Data) → Some (operations, last) ≡ parts_in d → n ≡ length operations → n ≤ most_vertices
unfolding parts_in
parts-few d n operations last e count =
    let few : length operations ≤ most_vertices =
    few-by (strict (codes "ops" ∷ codes "version" ∷ []) d) (option_and_then version_in (get (codes "version") d)) (option_and_then as_list (get (codes "ops") d)) (operations, last) (sym e) in
    omega arith

pub parts-of : (text : List ℕ) (d : Data) (parts : Operations × Data) → read text ≡ Some d → Some parts ≡ parts_in d → parts_of text ≡ Some parts
parts-of text d parts is e = ap (option_and_then parts_in) is ∙ sym e

pub end-fault : (text : List ℕ) (operations : Operations) (last : Data) (graph : GraphValue) (fault : Fault Defect) → parts_of text ≡ Some (operations, last) → IsReadAfter no_graph operations (Ok graph) → IsEnd graph.vertices last (Err fault) → IsReadAs text (Err fault)
end-fault text operations last graph (Because (Malformed n)) is all told = inr (operations, (last, (is, inr (graph, (all, told)))))
end-fault text operations last graph (Because (Unknown n)) is all told = inr (operations, (last, (is, inr (graph, (all, told)))))
end-fault text operations last graph (Because (Repeated n)) is all told = absurd told
end-fault text operations last graph (Because (Clash n)) is all told = absurd told
end-fault text operations last graph Memory is all told = tt
