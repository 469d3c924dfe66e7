-- What a part of an operation is written as is read as it.
use Rattle.std.specs.Prelude.{◌≡◌, ◌<◌, ◌+◌, ◌^◌, ◌||◌, ◌==◌, ℕ, suc, Bool, true, false, cond, not, Option, Some, None, List, [], ◌∷◌, ◌++◌, map, length, take, drop, nat_le}
use Rattle.std.proofs.Common.{sym, ap, refl, ◌∙◌, true≢false, arith, length-append}
use Rattle.std.specs.List.{list_any, position_or_len, AllByRecursion}
use Rattle.std.specs.Option.{option_and_then}
use Rattle.std.specs.Cmp.Lexicographic.{texts_ties}
use Rattle.std.proofs.lemmas.Bool.{eqb-true, lt-ltb}
use Rattle.hex.specs.Hex.{encode_lower, IsBytes}
use Rattle.hex.proofs.HexLemmas.{decode_of-encode_lower}
use Rattle.serde_json.specs.Data.{Data, string, number, unsigned}
use Rattle.serde_json.specs.View.{items_of}
use Rattle.serde_json.specs.Find.{as_str}
use Rattle.paths.specs.Path.{IsClean, is_name, text_of}
use Rattle.paths.specs.Name.{IsComponent, is_component}
use Rattle.plain.specs.Limits.{most_component_bytes}
use Rattle.paths.proofs.ReadingLaws.{read_from-text_of, limit_of-clean}
use Rattle.paths.proofs.FrontLaws.{both_hold, both_first, both_second, name_itself}
use Rattle.plain.specs.declared.owner.Owner.{Owner}
use Rattle.plain.specs.declared.sharing.Sharing.{Sharing}
use Rattle.plain.specs.declared.sharing.Sharing.TheVariants.{Shared, Private, Locked}
use Rattle.plain.specs.declared.variable.Variable.{Variable}
use Rattle.runs.specs.declared.run.CacheUse.{CacheUse}
use Rattle.llb.specs.declared.op.Bind.{Bind}
use Rattle.llb.specs.declared.op.Source.{Source}
use Rattle.llb.specs.declared.op.Source.TheVariants.{Scratch, Context, Image}
use Rattle.llb.specs.declared.op.FileSource.{FileSource}
use Rattle.llb.specs.declared.op.FileSource.TheVariants.{Pattern, Data as OwnFile}
use Rattle.plain.specs.VariableName.{is_variable_name}
use Rattle.strict.specs.Strict.{all_in, path_in, short_number_in}
use Rattle.operations.specs.Texts.{path_data, bind_data, cache_data, variable_data, variable_text, sharing_text, source_text, number_data, uid_data, gid_data, file_source_data}
use Rattle.operations.specs.Spelled.{variable_of, variable_in, sharing_of, bind_in, cache_in, source_of, or_null, mode_in, owner_of, name_in, content_in, pattern_in, own_file_in, file_source_in}
use Rattle.operations.specs.Proper.{IsProperBind, IsProperCache, IsProperFileSource, IsProperOwner, IsProperMode}

-- a list of values is read where each of them is
pub list-back : {A : Type 0} (one : Data → Option A) (written : A → Data) (Fits : A → Type 0) → ((x : A) → Fits x → one (written x) ≡ Some x) → (xs : List A) → AllByRecursion Fits xs → all_in one (items_of (map written xs)) ≡ Some xs
list-back one written Fits back [] all = refl
list-back one written Fits back (x ∷ xs) all = rw (back x all.0, list-back one written Fits back xs all.1) refl

pub texts-back : (xs : List (List ℕ)) → all_in as_str (items_of (map string xs)) ≡ Some xs
texts-back [] = refl
texts-back (x ∷ xs) = rw (texts-back xs) refl

pub path-back : (p : List (List ℕ)) → IsClean p → path_in (path_data p) ≡ Some p
unfolding path_in
path-back p clean = rw (read_from-text_of p [] clean.names, limit_of-clean p clean, (texts_ties (text_of p) (text_of p) ∙ name_itself (text_of p))) refl

pub source-text : (source : Source) → source_of (source_text source) ≡ Some source
source-text Scratch = refl
source-text Context = refl
source-text (Image name) = refl

sharing-text : (sharing : Sharing) → sharing_of (sharing_text sharing) ≡ Some sharing
sharing-text Shared = refl
sharing-text Private = refl
sharing-text Locked = refl

pub bind-back : (bind : Bind) → IsProperBind bind → bind_in (bind_data bind) ≡ Some bind
unfolding bind_in
bind-back bind clean = rw (path-back bind.source clean.0, path-back bind.target clean.1) refl

pub cache-back : (cache : CacheUse) → IsProperCache cache → cache_in (cache_data cache) ≡ Some cache
unfolding cache_in
cache-back cache clean = rw (sharing-text cache.sharing, path-back cache.target clean) refl

-- ---- a variable is cut at the `=` behind its name

name-len : (name value : List ℕ) → list_any (λ c. c == 61) name ≡ false → position_or_len (λ c. c == 61) (name ++ 61 ∷ value) ≡ length name
name-len [] value none = refl
name-len (c ∷ cs) value none = by (c == 61) none (λ h. name-len cs value h)
  where
    by : (b : Bool) → (b || list_any (λ c. c == 61) cs) ≡ false → (list_any (λ c. c == 61) cs ≡ false → position_or_len (λ c. c == 61) (cs ++ 61 ∷ value) ≡ length cs) → cond (not b) (1 + position_or_len (λ c. c == 61) (cs ++ 61 ∷ value)) 0 ≡ suc (length cs)
    by true h deeper = absurd (true≢false h)
    by false h deeper = ap (λ n. 1 + n) (deeper h) ∙ (let e : 1 + length cs ≡ suc (length cs) = omega arith in e)

take-front : (xs ys : List ℕ) → take (length xs) (xs ++ ys) ≡ xs
take-front [] ys = refl
take-front (x ∷ xs) ys = ap (λ l. x ∷ l) (take-front xs ys)

drop-front : (xs ys : List ℕ) (y : ℕ) → drop (length xs + 1) (xs ++ y ∷ ys) ≡ ys
drop-front [] ys y = refl
drop-front (x ∷ xs) ys y = (let e : suc (length xs) + 1 ≡ suc (length xs + 1) = omega arith in ap (λ n. drop n (x ∷ (xs ++ y ∷ ys))) e) ∙ drop-front xs ys y

not_whole : (name value : List ℕ) → (length name == length (name ++ 61 ∷ value)) ≡ false
not_whole name value = by (length name == length (name ++ 61 ∷ value)) (λ e. let same : length name ≡ length (name ++ 61 ∷ value) = eqb-true _ _ e in let long : length (name ++ 61 ∷ value) ≡ length name + suc (length value) = length-append name (61 ∷ value) in absurd (omega arith))
  where
    by : (b : Bool) → (b ≡ true → ⊥) → b ≡ false
    by true h = absurd (h refl)
    by false h = refl

unnot : (b : Bool) → not b ≡ true → b ≡ false
unnot true e = absurd (true≢false (sym e))
unnot false e = refl

variable-text : (variable : Variable) → is_variable_name variable.name ≡ true → variable_of (variable_text variable) ≡ Some variable
variable-text variable named =
    let len : position_or_len (λ c. c == 61) (variable.name ++ 61 ∷ variable.value) ≡ length variable.name = name-len variable.name variable.value (unnot _ (both_second (not (length variable.name == 0)) _ named)) in
    rw (len, not_whole variable.name variable.value, take-front variable.name (61 ∷ variable.value), named, drop-front variable.name variable.value 61) refl

pub variable-back : (variable : Variable) → is_variable_name variable.name ≡ true → variable_in (variable_data variable) ≡ Some variable
unfolding variable_in
variable-back variable named = variable-text variable named

-- ---- the parts of a copy

number-back : (n : ℕ) → n < 2 ^ 32 → or_null short_number_in (number (unsigned n)) ≡ Some (Some n)
unfolding short_number_in
number-back n small = rw (lt-ltb n (2 ^ 32) small) refl

pub owner-back : (owner : Option Owner) → IsProperOwner owner
    → option_and_then (λ user. option_and_then (λ group. owner_of user group) (or_null short_number_in (gid_data owner))) (or_null short_number_in (uid_data owner)) ≡ Some owner
owner-back None proper = refl
owner-back (Some owner) proper = rw (number-back owner.user proper.0, number-back owner.group proper.1) refl

pub mode-back : (mode : Option ℕ) → IsProperMode mode → or_null mode_in (number_data mode) ≡ Some mode
unfolding mode_in
mode-back None proper = refl
mode-back (Some mode) small = rw (lt-ltb mode 4096 small) refl

component : (name : List ℕ) → IsComponent name → is_component name ≡ true
component name is = both_hold (is_name name) (nat_le (length name) most_component_bytes) (both_first (is_name name) true is.names) (both_first (nat_le (length name) most_component_bytes) true is.short)

content-back : (content : List ℕ) → IsBytes content → content_in (string (encode_lower content)) ≡ Some content
unfolding content_in
content-back content bytes = rw (decode_of-encode_lower content bytes) refl

name-back : (name : List ℕ) → IsComponent name → name_in (string name) ≡ Some name
unfolding name_in
name-back name is = rw (component name is) refl

pub file-source-back : (source : FileSource) → IsProperFileSource source → file_source_in (file_source_data source) ≡ Some source
unfolding file_source_in pattern_in own_file_in
file-source-back (Pattern text) proper = refl
file-source-back (OwnFile name content) proper = rw (content-back content proper.1, name-back name proper.0) refl
