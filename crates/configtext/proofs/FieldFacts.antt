-- The fields of a configuration, said one behind the other, are the members of its object.
use Rattle.std.proofs.Common.{◌≡◌, ℕ, ◌+◌, ◌<◌, Bool, true, false, ◌||◌, List, [], ◌∷◌, ◌++◌, length, get_or, drop, map, Option, Some, None, Less, nat_cmp, refl, sym, ap, ◌∙◌, append_assoc, codes, arith}
use Rattle.std.proofs.lemmas.Cmp.{nat_list_cmp_total}
use Rattle.std.proofs.lemmas.List.{drop_more}
use Rattle.std.specs.Cmp.Lexicographic.{slice_cmp}
use Rattle.json.specs.Print.{escape_byte, escape, quoted}
use Rattle.paths.specs.Path.{text_of, rooted}
use Rattle.serde_json.specs.Data.{Data, string, object, Members, no_members, member, put}
use Rattle.serde_json.specs.View.{items_of}
use Rattle.serde_json.specs.Written.{comma_if, compact_text, items_text, members_text}
use Rattle.serde_json.proofs.OnLiterals.{serde_json_on_literals}
use Rattle.quoted.proofs.EscapeFacts.{escape-append}
use Rattle.strict.specs.Written.{list_data}
use Rattle.imageconfig.specs.declared.config.Config.{Config}
use Rattle.imageconfig.specs.Writing.{put_if, put_dir, put_first, put_middle, put_last, settings_data, config_data, is_set, names_data, rows_data, variable_data}
use Rattle.configtext.specs.PrivateFields.{Field, field, said_if, said_fields, later_after, first_fields, middle_fields, dir_text, last_fields}

-- ---- one field

pub said-is : (b later : Bool) (key value text : List ℕ) → b ≡ true → value ≡ text → (comma_if later ++ (quoted key ++ (58 ∷ []))) ++ value ≡ said_if b later key text
said-is b later key value text set is =
    append_assoc (comma_if later) (quoted key ++ (58 ∷ [])) value
    ∙ ap (λ t. comma_if later ++ t) (append_assoc (quoted key) (58 ∷ []) value ∙ ap (λ t. quoted key ++ 58 ∷ t) is)
    ∙ sym (ap (λ (now : Bool). said_if now later key text) set)

-- a label, whose key is said with its colon
pub label-text : (later : Bool) (key said value : List ℕ) → said ≡ value → (comma_if later ++ (quoted key ++ (58 ∷ []))) ++ quoted said ≡ comma_if later ++ (quoted key ++ 58 ∷ quoted value)
label-text later key said value is =
    append_assoc (comma_if later) (quoted key ++ (58 ∷ [])) (quoted said)
    ∙ ap (λ t. comma_if later ++ t) (append_assoc (quoted key) (58 ∷ []) (quoted said) ∙ ap (λ v. quoted key ++ 58 ∷ quoted v) is)

-- a variable, part by part
pub variable-text : (said_name said_value name value : List ℕ) → said_name ≡ name → said_value ≡ value
    → 34 ∷ (escape said_name ++ (61 ∷ (escape said_value ++ (34 ∷ [])))) ≡ quoted (name ++ 61 ∷ value)
unfolding escape_byte
variable-text said_name said_value name value first second =
    ap (λ n. 34 ∷ (escape n ++ (61 ∷ (escape said_value ++ (34 ∷ []))))) first
    ∙ ap (λ v. 34 ∷ (escape name ++ (61 ∷ (escape v ++ (34 ∷ []))))) second
    ∙ ap (λ t. 34 ∷ t) (sym (append_assoc (escape name) (61 ∷ escape value) (34 ∷ [])) ∙ ap (λ t. t ++ 34 ∷ []) (sym (escape-append name (61 ∷ value))))

-- ---- items of a list

-- what is left of a list, the next item first
pub drop-item : {A : Type 0} (xs : List A) (x : A) (i : ℕ) → i < length xs → x ≡ get_or xs i x → drop i xs ≡ x ∷ drop (i + 1) xs
drop-item xs x i lt is = drop_more xs i x lt ∙ ap (λ y. y ∷ drop (i + 1) xs) (sym is)

-- the items that are left, the next one first
pub items-next : {A : Type 0} (f : A → Data) (later : Bool) (left rest : List A) (x : A) (said : List ℕ) → left ≡ x ∷ rest → said ≡ compact_text (f x)
    → comma_if later ++ (said ++ items_text true (items_of (map f rest))) ≡ items_text later (items_of (map f left))
items-next f later left rest x said next same =
    ap (λ t. comma_if later ++ (t ++ items_text true (items_of (map f rest)))) same
    ∙ sym (ap (λ ys. items_text later (items_of (map f ys))) next)

-- the items from one on, that item first
pub items-from : {A : Type 0} (f : A → Data) (later : Bool) (xs : List A) (x : A) (said : List ℕ) (i : ℕ) → i < length xs → x ≡ get_or xs i x → said ≡ compact_text (f x)
    → comma_if later ++ (said ++ items_text true (items_of (map f (drop (i + 1) xs)))) ≡ items_text later (items_of (map f (drop i xs)))
items-from f later xs x said i lt is same = items-next f later (drop i xs) (drop (i + 1) xs) x said (drop-item xs x i lt is) same

-- ---- the order of the keys

abbrev put_fields : List Field → Members → Members
put_fields [] ms = ms
put_fields (f ∷ fs) ms = put_if f.is_set f.key f.value (put_fields fs ms)

-- a key is less than the first of some members
abbrev IsBefore : List ℕ → Members → Type 0
IsBefore k no_members = Unit {0}
IsBefore k (member l d ms) = slice_cmp nat_cmp k l ≡ Less

put-front : (k : List ℕ) (d : Data) (ms : Members) → IsBefore k ms → put k d ms ≡ member k d ms
put-front k d no_members before = refl
put-front k d (member l e ms) before = rw before refl

before-less : (k l : List ℕ) (ms : Members) → slice_cmp nat_cmp k l ≡ Less → IsBefore l ms → IsBefore k ms
before-less k l no_members less before = tt
before-less k l (member m d ms) less before = nat_list_cmp_total.trans k l m less before

before-put : (b : Bool) (k l : List ℕ) (d : Data) (ms : Members) → slice_cmp nat_cmp k l ≡ Less → IsBefore l ms → IsBefore k (put_if b l d ms)
before-put true k l d ms less before = rw (put-front l d ms before) less
before-put false k l d ms less before = before-less k l ms less before

abbrev IsAscending : List Field → Members → Type 0
IsAscending [] ms = Unit {0}
IsAscending (f ∷ fs) ms = IsBefore f.key (put_fields fs ms) × IsAscending fs ms

-- a field that goes before the others is said before them
one-said : (b later : Bool) (k : List ℕ) (d : Data) (ms : Members) → IsBefore k ms
    → members_text later (put_if b k d ms) ≡ said_if b later k (compact_text d) ++ members_text (b || later) ms
one-said true later k d ms before =
    ap (members_text later) (put-front k d ms before)
    ∙ sym (append_assoc (comma_if later) (quoted k ++ 58 ∷ compact_text d) (members_text true ms)
    ∙ ap (λ t. comma_if later ++ t) (append_assoc (quoted k) (58 ∷ compact_text d) (members_text true ms)))
one-said false later k d ms before = refl

all-said : (later : Bool) (fs : List Field) (ms : Members) → IsAscending fs ms → members_text later (put_fields fs ms) ≡ said_fields later fs ++ members_text (later_after later fs) ms
all-said later [] ms order = refl
all-said later (f ∷ fs) ms order =
    one-said f.is_set later f.key f.value (put_fields fs ms) order.0
    ∙ ap (λ t. said_if f.is_set later f.key (compact_text f.value) ++ t) (all-said (f.is_set || later) fs ms order.1)
    ∙ sym (append_assoc (said_if f.is_set later f.key (compact_text f.value)) (said_fields (f.is_set || later) fs) (members_text (later_after (f.is_set || later) fs) ms))

-- ---- the fields of a configuration

set-some : (x : ℕ) (xs : List ℕ) → is_set (x ∷ xs) ≡ true
set-some x xs = grind (arith)

dir-put : (dir : Option (List (List ℕ))) (ms : Members) → put_dir dir ms ≡ put_if (is_set (dir_text dir)) (codes "WorkingDir") (string (dir_text dir)) ms
dir-put None ms = refl
dir-put (Some []) ms = refl
dir-put (Some (name ∷ names)) ms =
    sym (ap (λ (set : Bool). put_if set (codes "WorkingDir") (string (text_of (name ∷ names))) ms) (set-some 47 (name ++ rooted names)))

last-put : (c : Config) → put_last c no_members ≡ put_fields (last_fields c) no_members
last-put c = ap (λ ms. put_if (is_set c.user) (codes "User") (string c.user) (put_if (is_set c.volumes) (codes "Volumes") (names_data c.volumes) ms)) (dir-put c.working_dir no_members)

settings-put : (c : Config) → settings_data c ≡ object (put_fields (first_fields c) (put_fields (middle_fields c) (put_fields (last_fields c) no_members)))
unfolding settings_data
settings-put c = ap (λ ms. object (put_first c (put_middle c ms))) (last-put c)

-- three fields whose keys ascend, and the first of which goes before what is there
three-ascend : (f g h : Field) (ms : Members) → slice_cmp nat_cmp f.key g.key ≡ Less → slice_cmp nat_cmp g.key h.key ≡ Less → IsBefore h.key ms → IsAscending (f ∷ (g ∷ (h ∷ []))) ms
three-ascend f g h ms first second last =
    let third : IsBefore g.key (put_fields (h ∷ []) ms) = before-put h.is_set g.key h.key h.value ms second last in
    (before-put g.is_set f.key g.key g.value (put_fields (h ∷ []) ms) first third, (third, (last, tt)))

-- a key goes before three fields that it is less than the first of
before-three : (k : List ℕ) (f g h : Field) (ms : Members) → slice_cmp nat_cmp k f.key ≡ Less → IsAscending (f ∷ (g ∷ (h ∷ []))) ms → IsBefore k (put_fields (f ∷ (g ∷ (h ∷ []))) ms)
before-three k f g h ms less order = before-put f.is_set k f.key f.value (put_fields (g ∷ (h ∷ [])) ms) less order.0

last-ascend : (c : Config) → IsAscending (last_fields c) no_members
last-ascend c =
    three-ascend (field (is_set c.user) (codes "User") (string c.user)) (field (is_set c.volumes) (codes "Volumes") (names_data c.volumes))
    (field (is_set (dir_text c.working_dir)) (codes "WorkingDir") (string (dir_text c.working_dir))) no_members refl refl tt

-- ExposedPorts, Labels and StopSignal go before what StopSignal does
middle-ascend : (c : Config) (ms : Members) → IsBefore (codes "StopSignal") ms → IsAscending (middle_fields c) ms
middle-ascend c ms before =
    three-ascend (field (is_set c.exposed_ports) (codes "ExposedPorts") (names_data c.exposed_ports)) (field (is_set c.labels) (codes "Labels") (rows_data c.labels))
    (field (is_set c.stop_signal) (codes "StopSignal") (string c.stop_signal)) ms refl refl before

first-ascend : (c : Config) (ms : Members) → IsBefore (codes "Env") ms → IsAscending (first_fields c) ms
first-ascend c ms before =
    three-ascend (field (is_set c.cmd) (codes "Cmd") (list_data string c.cmd)) (field (is_set c.entrypoint) (codes "Entrypoint") (list_data string c.entrypoint))
    (field (is_set c.env) (codes "Env") (list_data variable_data c.env)) ms refl refl before

abbrev last_put : Config → Members
last_put c = put_fields (last_fields c) no_members

abbrev middle_put : Config → Members
middle_put c = put_fields (middle_fields c) (last_put c)

signal-before : (c : Config) → IsBefore (codes "StopSignal") (last_put c)
signal-before c = before-put (is_set c.user) (codes "StopSignal") (codes "User") (string c.user) _ refl (last-ascend c).0

env-before : (c : Config) → IsBefore (codes "Env") (middle_put c)
env-before c =
    before-put (is_set c.exposed_ports) (codes "Env") (codes "ExposedPorts") (names_data c.exposed_ports) _ refl (middle-ascend c (last_put c) (signal-before c)).0

-- the fields in three groups, between the braces
pub settings-text : (c : Config) (first middle : Bool) → first ≡ later_after false (first_fields c) → middle ≡ later_after first (middle_fields c)
    → 123 ∷ (said_fields false (first_fields c) ++ (said_fields first (middle_fields c) ++ (said_fields middle (last_fields c) ++ (125 ∷ [])))) ≡ compact_text (settings_data c)
settings-text c first middle is then =
    ap (λ t. 123 ∷ (said_fields false (first_fields c) ++ (said_fields first (middle_fields c) ++ t))) (sym (all-said middle (last_fields c) no_members (last-ascend c)))
    ∙ ap (λ later. 123 ∷ (said_fields false (first_fields c) ++ (said_fields first (middle_fields c) ++ members_text later (last_put c)))) then
    ∙ ap (λ t. 123 ∷ (said_fields false (first_fields c) ++ t)) (sym (all-said first (middle_fields c) (last_put c) (middle-ascend c (last_put c) (signal-before c))))
    ∙ ap (λ later. 123 ∷ (said_fields false (first_fields c) ++ members_text later (middle_put c))) is
    ∙ ap (λ t. 123 ∷ t) (sym (all-said false (first_fields c) (middle_put c) (first-ascend c (middle_put c) (env-before c))))
    ∙ sym (ap compact_text (settings-put c))

-- the pieces of a configuration
pub config-text : (c : Config) (architecture os : List ℕ) → architecture ≡ c.architecture → os ≡ c.os
    → codes "{\"architecture\":" ++ (quoted architecture ++ (codes ",\"config\":" ++ (compact_text (settings_data c) ++ (codes ",\"os\":"
    ++ (quoted os ++ codes ",\"rootfs\":{\"diff_ids\":[],\"type\":\"layers\"}}"))))) ≡ compact_text (config_data c)
unfolding config_data serde_json_on_literals
config-text c architecture os first second =
    ap (λ a. codes "{\"architecture\":" ++ (quoted a ++ (codes ",\"config\":" ++ (compact_text (settings_data c) ++ (codes ",\"os\":"
    ++ (quoted os ++ codes ",\"rootfs\":{\"diff_ids\":[],\"type\":\"layers\"}}")))))) first
    ∙ ap (λ o. codes "{\"architecture\":" ++ (quoted c.architecture ++ (codes ",\"config\":" ++ (compact_text (settings_data c) ++ (codes ",\"os\":"
    ++ (quoted o ++ codes ",\"rootfs\":{\"diff_ids\":[],\"type\":\"layers\"}}")))))) second
