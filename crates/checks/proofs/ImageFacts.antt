-- The names of a bundle's images, as they are read, and what they change in what is shown.
use Rattle.std.proofs.Common.{◌≡◌, ◌++◌, ◌||◌, ◌∙◌, ℕ, Bool, true, false, cond, List, [], ◌∷◌, map, Option, Some, None, option_and_then, is_some, unwrap_or, Result, Ok, Err, IfOk, refl, sym, ap, true≢false}
use Rattle.std.specs.Prelude.{IsUtf8}
use Rattle.std.specs.List.{list_any}
use Rattle.std.specs.Str.{is_utf8}
use Rattle.std.proofs.lemmas.Bool.{false≢true}
use Rattle.std.proofs.lemmas.Str.{is_utf8-from_IsUtf8, IsUtf8-from_is_utf8}
use Rattle.serde_json.specs.Data.{Data, Members, no_members, member}
use Rattle.serde_json.specs.Find.{as_object}
use Rattle.serde_json.specs.Read.{read}
use Rattle.plain.specs.declared.refusal.Code.TheVariants.{R12}
use Rattle.plain.specs.declared.memory.Memory.{Memory}
use Rattle.strict.specs.Strict.{with_first, members_in, rows_in}
use Rattle.expand.specs.declared.reason.Reason.{Reason}
use Rattle.expand.specs.declared.reason.Reason.TheVariants.{Coded, Required}
use Rattle.expand.specs.declared.reason.Rejection.{Rejection}
use Rattle.flaws.specs.Looks.{keys_of}
use Rattle.flaws.specs.declared.flaw.Flaw.{Flaw}
use Rattle.checks.specs.Images.{names_of, names_in, bytes_names}
use Rattle.meant.specs.Told.{message_by}
use Rattle.sentences.specs.declared.message.Message.{Message}
use Rattle.checks.specs.Mark.{marked_by, spot_by}
use Rattle.checks.specs.PrivateImages.{unread, needs_images, AreShownAlike}
use Rattle.checks.specs.Shown.{own_in, word_in, shown_told, shown_fault, shown_faults, shown_check}
use Rattle.checks.specs.declared.form.Form.{Form}
use Rattle.checks.specs.declared.images.Unread.{Unread}

-- the value of what is there
same : {A : Type 0} → (x y : A) → Some x ≡ Some y → x ≡ y
same x y e = ap (λ o. unwrap_or o x) e

not_none : {A : Type 0} → (x : A) → Some x ≡ None → ⊥
not_none x e = false≢true (sym (ap is_some e))

-- the rows that an object's members are read as
abbrev unread_rows : Members → List (List ℕ × Unread)
unread_rows no_members = []
unread_rows (member key d members) = (key, record {}) ∷ unread_rows members

all_unread : (members : Members) → members_in unread members ≡ Some (unread_rows members)
all_unread no_members = refl
all_unread (member key d members) = ap (with_first (Some (key, record {}))) (all_unread members)

keys-unread : (members : Members) → map (λ row. row.0) (unread_rows members) ≡ keys_of members
keys-unread no_members = refl
keys-unread (member key d members) = ap (λ names. key ∷ names) (keys-unread members)

found_of : (o : Option Members) (rows : List (List ℕ × Unread)) → option_and_then (members_in unread) o ≡ Some rows → map (λ row. row.0) rows ≡ names_of o
found_of None rows e = absurd (not_none rows (sym e))
found_of (Some members) rows e =
    ap (λ (rs : List (List ℕ × Unread)). map (λ row. row.0) rs) (same rows (unread_rows members) (sym e ∙ all_unread members)) ∙ keys-unread members

none_of : (o : Option Members) → option_and_then (members_in unread) o ≡ None → [] ≡ names_of o
none_of None e = refl
none_of (Some members) e = absurd (not_none (unread_rows members) (sym (all_unread members) ∙ e))

-- the keys of what is read are the object's
pub names_found : (d : Data) (rows : List (List ℕ × Unread)) → rows_in unread d ≡ Some rows → map (λ row. row.0) rows ≡ names_of (as_object d)
unfolding rows_in
names_found d rows e = found_of (as_object d) rows e

-- what isn't read has no keys
pub no_names : (d : Data) → rows_in unread d ≡ None → [] ≡ names_of (as_object d)
unfolding rows_in
no_names d e = none_of (as_object d) e

-- a text has the names of its JSON
pub text_names : (bytes : List ℕ) → IsUtf8 bytes → bytes_names bytes ≡ names_in (read bytes)
unfolding bytes_names
text_names bytes text = rw (is_utf8-from_IsUtf8 bytes text) refl

text-or-none : (bytes : List ℕ) (b : Bool) → is_utf8 bytes ≡ b → ¬ (IsUtf8 bytes) → cond b (names_in (read bytes)) [] ≡ []
text-or-none bytes true is none = absurd (none (IsUtf8-from_is_utf8 bytes is))
text-or-none bytes false is none = refl

-- and what is no text has none
pub no_text_names : (bytes : List ℕ) → ¬ (IsUtf8 bytes) → bytes_names bytes ≡ []
unfolding bytes_names
no_text_names bytes none = text-or-none bytes (is_utf8 bytes) refl none

-- what is shown of a fault that doesn't need them is the same, whatever the names

message-same : (target : Option (List ℕ)) (images others lines own : List (List ℕ)) (reason : Reason) (number : ℕ) (word : Option (List ℕ))
    → needs_images reason ≡ false
    → message_by target images None lines own reason number word ≡ message_by target others None lines own reason number word
message-same target images others lines own (Coded R12) number word h = absurd (true≢false h)
message-same target images others lines own (Coded code) number word h = refl
message-same target images others lines own (Required text) number word h = refl

shown-same : (file : List ℕ) (form : Form) (target : Option (List ℕ)) (images others lines : List (List ℕ)) (fault : Rejection) → needs_images fault.reason ≡ false
    → shown_fault file form target images lines fault ≡ shown_fault file form target others lines fault
shown-same file form target images others lines fault h =
    let own = own_in fault.reason lines fault.line in
    ap (λ (message : Message). shown_told file form fault own message (marked_by fault.reason (spot_by fault.reason lines own fault.line)))
    (message-same target images others lines own fault.reason fault.line (word_in (spot_by fault.reason lines own fault.line)) h)

neither : (a b : Bool) → a || b ≡ false → (a ≡ false) × (b ≡ false)
neither true b h = absurd (true≢false h)
neither false b h = (refl, h)

pub alike_without : (images others : List (List ℕ)) (faults : List Rejection) → list_any (λ fault. needs_images fault.reason) faults ≡ false
    → AreShownAlike images others faults
alike_without images others [] h file form target lines = refl
alike_without images others (fault ∷ faults) h file form target lines =
    let both = neither (needs_images fault.reason) (list_any (λ (it : Rejection). needs_images it.reason) faults) h in
    λ i. shown-same file form target images others lines fault both.0 i ++ alike_without images others faults both.1 file form target lines i

-- and with all of them it is what it is
pub alike : (result : Result (List (List ℕ)) Memory) (names : List (List ℕ)) (faults : List Rejection) → IfOk result (λ images. images ≡ names)
    → IfOk result (λ images. AreShownAlike images names faults)
alike (Ok images) names faults e = λ file form target lines. ap (λ (it : List (List ℕ)). shown_faults file form target it lines faults) e
alike (Err memory) names faults e = tt

-- so is what is shown of a bundle
pub check-alike : (file : List ℕ) (form : Form) (flaw : Option Flaw) (target : Option (List ℕ)) (images others lines : List (List ℕ)) (faults : List Rejection)
    → AreShownAlike images others faults → shown_check file form flaw target images lines faults ≡ shown_check file form flaw target others lines faults
check-alike file form None target images others lines faults alike = alike file form target lines
check-alike file form (Some flaw) target images others lines faults alike = refl
