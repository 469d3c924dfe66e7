-- What `serde_json` reads of a value, by cases on whether its numbers have values.
use Rattle.std.proofs.Common.{◌≡◌, ℕ, List, [], ◌∷◌, Bool, true, false, ◌&&◌, cond, Option, Some, None, option_map, option_and_then, is_some, Vec, Bor, refl, ap, ◌∙◌, rules}
use Rattle.json.specs.Json as json
use Rattle.json.specs.Value.{items_view, members_view}
use Rattle.json.specs.declared.value.Value.{Value, Null, Bool as Boolean, Number, String, Array, Object, the_lemmas}
use Rattle.json.proofs.Trees.{view-Array, view-Object}
use Rattle.serde_json.specs.Data.{Num, null, boolean, number, string, array, object, item, Members, no_members, put}
use Rattle.serde_json.specs.Read.{number_of, of_json, of_items, of_members, read}
use Rattle.borrowed.specs.Seen.{seen, seen_items, seen_members, seen_number, data_of}
use Rattle.borrowed.specs.PrivateRange.{in_range, items_in_range, members_in_range}
use Rattle.borrowed.specs.Lent.{items_data}
use Rattle.borrowed.specs.PrivateText.{json_of}

mapped : {A B : Type 0} (f : A → B) (b : Bool) (x : A) → option_map f (cond b (Some x) None) ≡ cond b (Some (f x)) None
mapped f true x = refl
mapped f false x = refl

picked : {A B : Type 0} (b c : Bool) (d : A) (f : A → Option B) (r : B) → f d ≡ cond c (Some r) None → option_and_then f (cond b (Some d) None) ≡ cond (b && c) (Some r) None
picked true c d f r h = h
picked false c d f r h = refl

number-seen : (o : Option Num) → option_map number o ≡ cond (is_some o) (Some (seen_number o)) None
number-seen None = refl
number-seen (Some n) = refl

mutual
  -- where each number has a value, the value is what it is seen as; else it is none
  pub of_json-seen : (j : json.Json) → of_json j ≡ cond (in_range j) (Some (seen j)) None
  of_json-seen json.null = refl
  of_json-seen (json.boolean b) = refl
  of_json-seen (json.number s) = number-seen (number_of s)
  of_json-seen (json.string s) = refl
  of_json-seen (json.array js) = ap (option_map array) (of_items-seen js) ∙ mapped array (items_in_range js) (seen_items js)
  of_json-seen (json.object ms) = ap (option_map object) (of_members-seen ms no_members) ∙ mapped object (members_in_range ms) (seen_members ms no_members)

  of_items-seen : (js : json.Items) → of_items js ≡ cond (items_in_range js) (Some (seen_items js)) None
  of_items-seen json.no_items = refl
  of_items-seen (json.item j js) =
      ap (option_and_then (λ d. option_map (item d) (of_items js))) (of_json-seen j)
      ∙ picked (in_range j) (items_in_range js) (seen j) (λ d. option_map (item d) (of_items js)) (item (seen j) (seen_items js))
      (ap (option_map (item (seen j))) (of_items-seen js) ∙ mapped (item (seen j)) (items_in_range js) (seen_items js))

  of_members-seen : (ms : json.Members) (found : Members) → of_members ms found ≡ cond (members_in_range ms) (Some (seen_members ms found)) None
  of_members-seen json.no_members found = refl
  of_members-seen (json.member k j ms) found =
      ap (option_and_then (λ d. of_members ms (put k d found))) (of_json-seen j)
      ∙ picked (in_range j) (members_in_range ms) (seen j) (λ d. of_members ms (put k d found)) (seen_members ms (put k (seen j) found)) (of_members-seen ms (put k (seen j) found))

-- ---- the whole text

pub read-of_json_of : (text : List ℕ) (o : Option json.Json) → json_of text ≡ o → read text ≡ option_and_then of_json o
read-of_json_of text o e = ap (option_and_then of_json) e

pub read-in_range : (text : List ℕ) (j : json.Json) → json_of text ≡ Some j → in_range j ≡ true → read text ≡ Some (seen j)
read-in_range text j e r = read-of_json_of text (Some j) e ∙ of_json-seen j ∙ ap (λ b. cond b (Some (seen j)) None) r

pub read-out_of_range : (text : List ℕ) (j : json.Json) → json_of text ≡ Some j → in_range j ≡ false → read text ≡ None
read-out_of_range text j e r = read-of_json_of text (Some j) e ∙ of_json-seen j ∙ ap (λ b. cond b (Some (seen j)) None) r

-- ---- a lent value, level by level

pub data-Null : (A : Type 0) → data_of {A = A} Null ≡ null
data-Null A = search (rules, the_lemmas)

pub data-Bool : (A : Type 0) → (b : Bool) → data_of {A = A} (Boolean b) ≡ boolean b
data-Bool A b = search (rules, the_lemmas)

pub data-Number : (A : Type 0) → (s : Bor (List ℕ)) → data_of {A = A} (Number s) ≡ seen_number (number_of s.now)
data-Number A s = search (rules, the_lemmas)

pub data-String : (A : Type 0) → (s : Bor (List ℕ)) → data_of {A = A} (String s) ≡ string s.now
data-String A s = search (rules, the_lemmas)

pub data-Array : {A : Type 0} → (v : Vec (Value A) A) → data_of (Array v) ≡ array (seen_items (items_view v.items))
data-Array v = ap seen (view-Array v)

pub data-Object : {A : Type 0} → (v : Vec (Bor (List ℕ) × Value A) A) → data_of (Object v) ≡ object (seen_members (members_view v.items) no_members)
data-Object v = ap seen (view-Object v)

pub seen_items-view : {A : Type 0} → (vs : List (Value A)) → seen_items (items_view vs) ≡ items_data vs
seen_items-view [] = refl
seen_items-view (v ∷ vs) = ap (item (data_of v)) (seen_items-view vs)
