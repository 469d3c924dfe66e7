-- Objects and lists that are read token by token: what a loop keeps, a turn of it, and its end.
use Rattle.std.proofs.Common.{Result, Ok, Err, IfOk, ◌≡◌, ℕ, Bool, cond, ◌+◌, ◌-◌, ◌^◌, ◌≤◌, ◌<◌, List, [], ◌∷◌, ◌++◌, length, Option, Some, None, option_map, option_and_then, append_assoc, append-nil, refl, ap, ap₂, sym, ◌∙◌, arith}
use Rattle.std.proofs.lemmas.Bool.{lt-ltb}
use Rattle.json.specs.Json as json
use Rattle.json.specs.Lex.{tokens}
use Rattle.json.specs.Token.{Token, begin_object, begin_array, string, number, boolean}
use Rattle.json.proofs.Grammar.{value_is, value-begin_array, value-begin_object, read_key-shorter, skip_value-shorter, items_end, items_more, members_end, members_more}
use Rattle.json.proofs.Grammar as grammar
use Rattle.serde_json.specs.Data as datum
use Rattle.serde_json.specs.Data.{Data, unsigned, object, array, Items, no_items, item, Members, no_members, put}
use Rattle.serde_json.specs.Find.{as_bool, as_str}
use Rattle.serde_json.specs.Read.{number_of, of_json, of_items, of_members, read}
use Rattle.plain.specs.declared.fault.Fault.{Fault}
use Rattle.strict.specs.Gives.{Gives}
use Rattle.strict.specs.Strict.{with_first, all_in, short_number_in}
use Rattle.strict.specs.declared.fault.NotRead.{NotRead}
use Rattle.borrowed.specs.Pulled.{IsNext, Pulls}

-- behind the brace that opens an object, tokens begin with its members and the brace that closes it
abbrev pub HasMembers : ℕ → List Token → List Token → Members → Type 0
HasMembers depth first left ms = (js : json.Members) × (json.members (json.value depth) (length first) first ≡ Some (js, left)) × (of_members js no_members ≡ Some ms)

-- an object began, and some members were found: whatever members come next, put to these, are all that it has
abbrev pub GoesOn : ℕ → List Token → List Token → Members → Type 0
GoesOn depth first now found =
    (n : ℕ) × (length now ≤ n) × ((js : json.Members) (left : List Token) (ms : Members) → json.members (json.value depth) n now ≡ Some (js, left) → of_members js found ≡ Some ms → HasMembers depth first left ms)

pub begins : (depth : ℕ) (first : List Token) → GoesOn depth first first no_members
begins depth first = (length first, omega arith, λ js left ms found all. (js, found, all))

-- a key and its value come next
pub goes_on : (depth : ℕ) (first now mid left : List Token) (k : List ℕ) (d : Data) (found : Members) → GoesOn depth first now found → json.read_key now ≡ Some (Some k, mid) → IsNext depth mid left d
    → GoesOn depth first left (put k d found)
goes_on depth first now mid left k d found g key next =
    let p = json.value depth in
    let n = g.0 in
    let one = read_key-shorter now (Some k) mid key in
    let two = skip_value-shorter depth mid left (ap grammar.left next.1) in
    let fewer : length left ≤ n - 1 = omega (arith, g.1, one, two) in
    let some : 0 < n = omega (arith, g.1, one, two) in (
      n - 1,
      fewer,
      λ js rest ms more all. g.2 (json.member k next.0 js) rest ms
          (members_more p n k now mid left next.0 some key next.1 ∙ ap (json.parse_map (json.member k next.0)) more)
          (ap (option_and_then (λ d. of_members js (put k d found))) next.2 ∙ all),
    )

-- the brace that closes the object comes next
pub ends : (depth : ℕ) (first now left : List Token) (found : Members) → GoesOn depth first now found → json.read_key now ≡ Some (None, left) → HasMembers depth first left found
ends depth first now left found g key = g.2 json.no_members left found (members_end (json.value depth) g.0 now left g.1 key) refl

pub object_is_next : (depth inner : ℕ) (tokens first left : List Token) (ms : Members) → depth ≡ inner + 1 → tokens ≡ begin_object ∷ first → HasMembers inner first left ms → IsNext depth tokens left (object ms)
object_is_next depth inner tokens first left ms deep opens has =
    let below : depth - 1 ≡ inner = omega arith in
    let there : 0 < depth = omega arith in (
      json.object has.0,
      ap (json.value depth) opens ∙ value-begin_object depth first there ∙ ap (λ d. json.parse_map json.object (json.members (json.value d) (length first) first)) below ∙ ap (json.parse_map json.object) has.1,
      ap (option_map object) has.2,
    )

-- ---- lists

abbrev pub HasItems : ℕ → List Token → List Token → Items → Type 0
HasItems depth first left ds = (js : json.Items) × (json.items (json.value depth) (length first) first ≡ Some (js, left)) × (of_items js ≡ Some ds)

-- a list began, and some items were read: whatever items come next, these and what those are read as are what the list is read as
abbrev pub ListGoesOn : {A : Type 0} → ℕ → (Data → Option A) → List Token → List Token → List A → Type 0
ListGoesOn {A} depth one first now xs =
    (n : ℕ) × (length now ≤ n) × ((js : json.Items) (left : List Token) (ds : Items) (more : List A) → json.items (json.value depth) n now ≡ Some (js, left) → of_items js ≡ Some ds → all_in one ds ≡ Some more
    → (all : Items) × HasItems depth first left all × (all_in one all ≡ Some (xs ++ more)))

pub list_begins : {A : Type 0} → (depth : ℕ) (one : Data → Option A) (first : List Token) → ListGoesOn depth one first first []
list_begins depth one first = (length first, omega arith, λ js left ds more found all read. (ds, (js, found, all), read))

pub list_goes_on : {A : Type 0} → (depth : ℕ) (one : Data → Option A) (first now left : List Token) (x : A) (xs : List A) → ListGoesOn depth one first now xs → json.after_end_array now ≡ None → Pulls depth one now left x
    → ListGoesOn depth one first left (xs ++ x ∷ [])
list_goes_on depth one first now left x xs g going next =
    let p = json.value depth in
    let n = g.0 in
    let d = next.0 in
    let j = next.1.0 in
    let less = skip_value-shorter depth now left (ap grammar.left next.1.1) in
    let fewer : length left ≤ n - 1 = omega (arith, g.1, less) in
    let some : 0 < n = omega (arith, g.1, less) in (
      n - 1,
      fewer,
      λ js rest ds more found all read.
          let r = g.2 (json.item j js) rest (item d ds) (x ∷ more) (items_more p n now left j some going next.1.1 ∙ ap (json.parse_map (json.item j)) found)
          (ap (option_and_then (λ d. option_map (item d) (of_items js))) next.1.2 ∙ ap (option_map (item d)) all) (ap₂ with_first next.2 read) in
          (r.0, r.1, r.2 ∙ ap Some (sym (append_assoc xs (x ∷ []) more))),
    )

pub list_ends : {A : Type 0} → (depth : ℕ) (one : Data → Option A) (first now left : List Token) (xs : List A) → ListGoesOn depth one first now xs → json.after_end_array now ≡ Some left
    → (all : Items) × HasItems depth first left all × (all_in one all ≡ Some xs)
list_ends depth one first now left xs g over =
    let r = g.2 json.no_items left no_items [] (items_end (json.value depth) g.0 now left g.1 over) refl refl in
    (r.0, r.1, r.2 ∙ ap Some (append-nil xs))

pub list_is_next : (depth inner : ℕ) (tokens first left : List Token) (ds : Items) → depth ≡ inner + 1 → tokens ≡ begin_array ∷ first → HasItems inner first left ds → IsNext depth tokens left (array ds)
list_is_next depth inner tokens first left ds deep opens has =
    let below : depth - 1 ≡ inner = omega arith in
    let there : 0 < depth = omega arith in (
      json.array has.0,
      ap (json.value depth) opens ∙ value-begin_array depth first there ∙ ap (λ d. json.parse_map json.array (json.items (json.value d) (length first) first)) below ∙ ap (json.parse_map json.array) has.1,
      ap (option_map array) has.2,
    )

-- ---- values of one token

pub text_is_next : (depth : ℕ) (tokens left : List Token) (text : List ℕ) → tokens ≡ string text ∷ left → Pulls depth as_str tokens left text
text_is_next depth tokens left text e = (datum.string text, (json.string text, ap (json.value depth) e ∙ value_is depth (string text ∷ left), refl), refl)

pub flag_is_next : (depth : ℕ) (tokens left : List Token) (flag : Bool) → tokens ≡ boolean flag ∷ left → Pulls depth as_bool tokens left flag
flag_is_next depth tokens left flag e = (datum.boolean flag, (json.boolean flag, ap (json.value depth) e ∙ value_is depth (boolean flag ∷ left), refl), refl)

pub number_is_next : (depth : ℕ) (tokens left : List Token) (text : List ℕ) (n : ℕ) → tokens ≡ number text ∷ left → number_of text ≡ Some (unsigned n) → n < 2 ^ 32 → Pulls depth short_number_in tokens left n
unfolding short_number_in
number_is_next depth tokens left text n e is fits =
    (datum.number (unsigned n), (json.number text, ap (json.value depth) e ∙ value_is depth (number text ∷ left), ap (option_map datum.number) is), ap (λ b. cond b (Some n) None) (lt-ltb n (2 ^ 32) fits))

-- ---- a whole text

pub whole_text : {A : Type 0} → (one : Data → Option A) (text : List ℕ) (x : A) → Pulls 127 one (tokens text) [] x → option_and_then one (read text) ≡ Some x
whole_text one text x next =
    ap (λ r. option_and_then one (option_and_then of_json (option_and_then (λ p. json.if_last p.0 p.1) r))) next.1.1 ∙ ap (option_and_then one) next.1.2 ∙ next.2

-- a reader's answer, where it gave one
pub what_it_gives : {A : Type 0} → (r : Result A (Fault NotRead)) (o : Option A) (P : A → Type 0) → Gives r o → ((x : A) → o ≡ Some x → P x) → IfOk r P
what_it_gives (Ok x) o P gives so = so x gives
what_it_gives (Err e) o P gives so = tt
