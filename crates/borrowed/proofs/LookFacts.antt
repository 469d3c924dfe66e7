-- Looking into an object whose members were put one after another: the last value of a key is found, and the keys are those that were put.
use Rattle.std.proofs.Common.{◌≡◌, ℕ, List, Bool, true, false, ◌&&◌, cond, Option, Some, None, option_map, option_and_then, is_some, if◌then◌else◌, Bor, Ordering, Less, Equal, Greater, nat_cmp, is_eq, bytes_eq, refl, ap, sym, ◌∙◌}
use Rattle.std.proofs.lemmas.Map.Text.{is_eq-slice_cmp}
use Rattle.std.proofs.lemmas.Slice.Eq.{bytes_eq-Decides}
use Rattle.std.specs.Cmp.Lexicographic.{slice_cmp}
use Rattle.std.specs.List.{list_any}
use Rattle.std.specs.Ordering.{match_ordering}
use Rattle.json.specs.Json as json
use Rattle.json.specs.Find as look
use Rattle.json.specs.Value.{value_view}
use Rattle.json.specs.declared.value.Value.{Value}
use Rattle.serde_json.proofs.Views.{get_member-put, get_member-put_other}
use Rattle.serde_json.specs.Data.{Num, Data, null, number, object, Members, no_members, member, put}
use Rattle.serde_json.specs.Find.{get, get_member, as_str, as_bool, as_number}
use Rattle.serde_json.specs.Read.{number_of}
use Rattle.strict.specs.Strict.{has_only, strict}
use Rattle.borrowed.specs.Seen.{seen, seen_number, seen_members, data_of}

-- what is seen of the last value of a key, where it stands; else what was found before
abbrev seen_or : Option json.Json → Option Data → Option Data
seen_or None before = before
seen_or (Some j) before = Some (seen j)

later : (o : Option json.Json) (b : Bool) (j : json.Json) (before : Option Data) → seen_or o (cond b (Some (seen j)) before) ≡ seen_or (look.later_or o (cond b (Some j) None)) before
later None true j before = refl
later None false j before = refl
later (Some i) b j before = refl

differ : (l k : List ℕ) → bytes_eq l k ≡ false → k ≡ l → ⊥
differ l k e same = let yes = (bytes_eq-Decides l k).1 (sym same) in absurd (cc)

pub get-put_at : (b : Bool) (k l : List ℕ) (d : Data) (found : Members) → bytes_eq l k ≡ b → get_member k (put l d found) ≡ cond b (Some d) (get_member k found)
get-put_at true k l d found e = ap (λ q. get_member q (put l d found)) (sym ((bytes_eq-Decides l k).0 e)) ∙ get_member-put l d found
get-put_at false k l d found e = get_member-put_other k l d found (differ l k e)

get_member-seen : (k : List ℕ) (ms : json.Members) (found : Members) → get_member k (seen_members ms found) ≡ seen_or (look.get_member k ms) (get_member k found)
get_member-seen k json.no_members found = refl
get_member-seen k (json.member l j ms) found =
    get_member-seen k ms (put l (seen j) found) ∙ ap (seen_or (look.get_member k ms)) (get-put_at (bytes_eq l k) k l (seen j) found refl) ∙ later (look.get_member k ms) (bytes_eq l k) j (get_member k found)

seen_or-None : (o : Option json.Json) → seen_or o None ≡ option_map seen o
seen_or-None None = refl
seen_or-None (Some j) = refl

no_number_has_members : (k : List ℕ) (o : Option Num) → get k (seen_number o) ≡ None
no_number_has_members k None = refl
no_number_has_members k (Some n) = refl

-- of what stands at a key the last is seen
pub get-seen : (k : List ℕ) (j : json.Json) → get k (seen j) ≡ option_map seen (look.get k j)
get-seen k json.null = refl
get-seen k (json.boolean b) = refl
get-seen k (json.number s) = no_number_has_members k (number_of s)
get-seen k (json.string s) = refl
get-seen k (json.array js) = refl
get-seen k (json.object ms) = get_member-seen k ms no_members ∙ seen_or-None (look.get_member k ms)

pub seen_of_ref : {A : Type 0} → (r : Option (Bor (Value A))) → option_map (λ v. data_of v.now) r ≡ option_map seen (option_map (λ v. value_view v.now) r)
seen_of_ref None = refl
seen_of_ref (Some v) = refl

-- ---- the keys

-- each key passes a test
abbrev pub keys_pass : (List ℕ → Bool) → json.Members → Bool
keys_pass test json.no_members = true
keys_pass test (json.member k j ms) = test k && keys_pass test ms

again : (b c : Bool) → b && c ≡ b && (b && c)
again true c = refl
again false c = refl

swapped : (a b c : Bool) → a && (b && c) ≡ b && (a && c)
swapped true b c = refl
swapped false true c = refl
swapped false false c = refl

regrouped : (a b c : Bool) → a && (b && c) ≡ (b && a) && c
regrouped true true c = refl
regrouped true false c = refl
regrouped false true c = refl
regrouped false false c = refl

module _ (test : List ℕ → Bool) where
  has_only-put_at : (o : Ordering) (k l : List ℕ) (d e : Data) (ms : Members) → slice_cmp nat_cmp k l ≡ o → has_only test (put k d ms) ≡ test k && has_only test ms
      → has_only test (match_ordering o (member k d (member l e ms)) (member l d ms) (member l e (put k d ms))) ≡ test k && (test l && has_only test ms)
  has_only-put_at Less k l d e ms is h = refl
  has_only-put_at Equal k l d e ms is h =
      let same : k ≡ l = (bytes_eq-Decides k l).0 (sym (is_eq-slice_cmp k l) ∙ ap is_eq is) in
      again (test l) (has_only test ms) ∙ ap (λ q. test q && (test l && has_only test ms)) (sym same)
  has_only-put_at Greater k l d e ms is h = ap (λ b. test l && b) h ∙ swapped (test l) (test k) (has_only test ms)

  pub has_only-put : (k : List ℕ) (d : Data) (ms : Members) → has_only test (put k d ms) ≡ test k && has_only test ms
  has_only-put k d no_members = refl
  has_only-put k d (member l e ms) = has_only-put_at (slice_cmp nat_cmp k l) k l d e ms refl (has_only-put k d ms)

  has_only-seen : (ms : json.Members) (found : Members) → has_only test (seen_members ms found) ≡ keys_pass test ms && has_only test found
  has_only-seen json.no_members found = refl
  has_only-seen (json.member k j ms) found =
      has_only-seen ms (put k (seen j) found) ∙ ap (λ b. keys_pass test ms && b) (has_only-put k (seen j) found) ∙ regrouped (keys_pass test ms) (test k) (has_only test found)

and_true : (b : Bool) → b && true ≡ b
and_true true = refl
and_true false = refl

pub has_only-keys : (test : List ℕ → Bool) (ms : json.Members) → has_only test (seen_members ms no_members) ≡ keys_pass test ms
has_only-keys test ms = has_only-seen test ms no_members ∙ and_true (keys_pass test ms)

-- ---- what a value is, but an object

no_number_is : {A : Type 0} → (f : Data → Option A) → f null ≡ None → ((n : Num) → f (number n) ≡ None) → (o : Option Num) → f (seen_number o) ≡ None
no_number_is f a b None = a
no_number_is f a b (Some n) = b n

pub as_str-seen : (j : json.Json) → as_str (seen j) ≡ look.as_str j
as_str-seen json.null = refl
as_str-seen (json.boolean b) = refl
as_str-seen (json.number s) = no_number_is as_str refl (λ n. refl) (number_of s)
as_str-seen (json.string s) = refl
as_str-seen (json.array js) = refl
as_str-seen (json.object ms) = refl

pub as_bool-seen : (j : json.Json) → as_bool (seen j) ≡ look.as_bool j
as_bool-seen json.null = refl
as_bool-seen (json.boolean b) = refl
as_bool-seen (json.number s) = no_number_is as_bool refl (λ n. refl) (number_of s)
as_bool-seen (json.string s) = refl
as_bool-seen (json.array js) = refl
as_bool-seen (json.object ms) = refl

number_seen : (o : Option Num) → as_number (seen_number o) ≡ o
number_seen None = refl
number_seen (Some n) = refl

pub as_number-seen : (j : json.Json) → as_number (seen j) ≡ option_and_then number_of (look.as_number j)
as_number-seen json.null = refl
as_number-seen (json.boolean b) = refl
as_number-seen (json.number s) = number_seen (number_of s)
as_number-seen (json.string s) = refl
as_number-seen (json.array js) = refl
as_number-seen (json.object ms) = refl

some_if : (b : Bool) (ms : Members) → is_some (if b then Some ms else None) ≡ b
some_if true ms = refl
some_if false ms = refl

pub strict-object : (keys : List (List ℕ)) (ms : Members) → is_some (strict keys (object ms)) ≡ has_only (λ key. list_any (λ known. bytes_eq known key) keys) ms
strict-object keys ms = some_if (has_only (λ key. list_any (λ known. bytes_eq known key) keys) ms) ms
