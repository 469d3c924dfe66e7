-- What is found of an object's members through rows, each of which holds what was found of its value.
use Rattle.std.proofs.Common.{◌≡◌, ℕ, List, [], ◌∷◌, Bool, true, Option, Some, None, option_and_then, is_some, unwrap_or, map, refl, ap, sym, ◌∙◌}
use Rattle.std.proofs.lemmas.Bool.{false≢true}
use Rattle.serde_json.specs.Data.{Data, Members, no_members, member}
use Rattle.serde_json.specs.Find.{as_object}
use Rattle.strict.specs.Strict.{strict, with_first, members_in, rows_in}
use Rattle.flaws.specs.Looks.{Looks, below, or_else, keys_of, first_key, keys_in, keys, no_other, among_members, members_in as found_in, rows}
use Rattle.flaws.specs.PrivateRows.{looked, first_found}
use Rattle.flaws.specs.declared.flaw.Step.TheVariants.{Key}
use Rattle.flaws.specs.declared.looking.Looked.{Looked}
use Rattle.flaws.proofs.LookFacts.{fine, fine-no_other}

-- the value of what is there
same : {A : Type 0} → (x y : A) → Some x ≡ Some y → x ≡ y
same x y e = ap (λ o. unwrap_or o x) e

not_none : {A : Type 0} → (x : A) → Some x ≡ None → ⊥
not_none x e = false≢true (sym (ap is_some e))

-- any value is read so
abbrev reading : (L : Type 0) → Looks → Data → Option (Looked L)
reading L looks d = Some (looked (looks d))

-- what is found of each member, with its key
abbrev looked_rows : (L : Type 0) → Looks → Members → List (List ℕ × Looked L)
looked_rows L looks no_members = []
looked_rows L looks (member key d members) = (key, looked (looks d)) ∷ looked_rows L looks members

all_looked : (L : Type 0) (looks : Looks) (members : Members) → members_in (reading L looks) members ≡ Some (looked_rows L looks members)
all_looked L looks no_members = refl
all_looked L looks (member key d members) = ap (with_first (Some (key, looked (looks d)))) (all_looked L looks members)

keys-looked : (L : Type 0) (looks : Looks) (members : Members) → map (λ row. row.0) (looked_rows L looks members) ≡ keys_of members
keys-looked L looks no_members = refl
keys-looked L looks (member key d members) = ap (λ names. key ∷ names) (keys-looked L looks members)

found-looked : (L : Type 0) (looks : Looks) (members : Members) → first_found (looked_rows L looks members) ≡ among_members looks members
found-looked L looks no_members = refl
found-looked L looks (member key d members) = ap (or_else (below (Key key) (looks d))) (found-looked L looks members)

found_of : (L : Type 0) (looks : Looks) (o : Option Members) (rs : List (List ℕ × Looked L)) → option_and_then (members_in (reading L looks)) o ≡ Some rs → first_found rs ≡ found_in looks o
found_of L looks None rs e = absurd (not_none rs (sym e))
found_of L looks (Some members) rs e =
    ap first_found (same rs (looked_rows L looks members) (sym e ∙ all_looked L looks members)) ∙ found-looked L looks members

keys_found_of : (L : Type 0) (looks : Looks) (is_key : List ℕ → Bool) (o : Option Members) (rs : List (List ℕ × Looked L)) → option_and_then (members_in (reading L looks)) o ≡ Some rs
    → first_key is_key (map (λ row. row.0) rs) ≡ keys_in is_key o
keys_found_of L looks is_key None rs e = absurd (not_none rs (sym e))
keys_found_of L looks is_key (Some members) rs e =
    ap (λ xs. first_key is_key (map (λ row. row.0) xs)) (same rs (looked_rows L looks members) (sym e ∙ all_looked L looks members))
    ∙ ap (first_key is_key) (keys-looked L looks members)

none_found_of : (L : Type 0) (looks : Looks) (o : Option Members) → option_and_then (members_in (reading L looks)) o ≡ None → o ≡ None
none_found_of L looks None e = refl
none_found_of L looks (Some members) e = absurd (not_none (looked_rows L looks members) (sym (all_looked L looks members) ∙ e))

pub rows_found : {L : Type 0} → (looks : Looks) (d : Data) (rs : List (List ℕ × Looked L)) → rows_in (reading L looks) d ≡ Some rs → first_found rs ≡ rows looks d
unfolding rows_in
rows_found {L} looks d rs e = found_of L looks (as_object d) rs e

pub no_rows : (L : Type 0) (looks : Looks) (d : Data) → rows_in (reading L looks) d ≡ None → rows looks d ≡ Some []
unfolding rows_in
no_rows L looks d e = ap (found_in looks) (none_found_of L looks (as_object d) e)

pub keys_found : {L : Type 0} → (looks : Looks) (is_key : List ℕ → Bool) (d : Data) (rs : List (List ℕ × Looked L)) → rows_in (reading L looks) d ≡ Some rs
    → first_key is_key (map (λ row. row.0) rs) ≡ keys is_key d
unfolding rows_in
keys_found {L} looks is_key d rs e = keys_found_of L looks is_key (as_object d) rs e

pub no_keys_found : (L : Type 0) (looks : Looks) (is_key : List ℕ → Bool) (d : Data) → rows_in (reading L looks) d ≡ None → keys is_key d ≡ Some []
unfolding rows_in
no_keys_found L looks is_key d e = ap (keys_in is_key) (none_found_of L looks (as_object d) e)

is_none : {A : Type 0} → (o : Option A) → fine o ≡ true → o ≡ None
is_none None e = refl
is_none (Some x) e = absurd (false≢true e)

-- an object that has these keys alone has no other
pub strict_keys : (known : List (List ℕ)) (d : Data) → is_some (strict known d) ≡ true → no_other known d ≡ None
strict_keys known d e = is_none (no_other known d) (fine-no_other known d ∙ e)
