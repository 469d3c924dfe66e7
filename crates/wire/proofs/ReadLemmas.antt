-- What the fields of one number are among others, by the type of what they hold, and that each is read as it was written. The numbers of
-- fields are compared by computation, so `reads` simplifies what a whole message of known numbers is read as.
use Rattle.std.proofs.Common.{◌≡◌, ◌==◌, inl, inr, if◌then◌else◌, ℕ, ℤ, Bool, true, false, Option, Some, None, option_map, List, [], ◌∷◌, ◌++◌, map, not, arith, refl, sym, ap, ◌∙◌}
use Rattle.std.specs.Option.{option_and_then, ForSome}
use Rattle.std.specs.Int.{cast_unsigned, cast_signed, from_bool, w64}
use Rattle.std.specs.Int.RustNames.{FitsSigned}
use Rattle.std.specs.List.{AllByRecursion}
use Rattle.std.proofs.lemmas.Bool.{cases_Bool}
use Rattle.std.proofs.lemmas.Bool.Decides.{nat_tests}
use Rattle.std.proofs.lemmas.Int.{to_z-of_z}
use Rattle.std.proofs.lemmas.List.{append-nil}
use Rattle.wire.specs.Fields.{Field, number, block}
use Rattle.wire.specs.Messages.{message_bytes}
use Rattle.wire.specs.Kinds.{number_field, bytes_field, texts_field, message_field, optional_field, messages_field, entry_fields, numbers_of, blocks_of, last_or, joined, read_each, read_optional, read_as, message_at, entry_of, text_value, flag_value, message_value, text_value_at, flag_value_at}
use Rattle.wire.proofs.MessageLemmas.{message-back}

-- a number that is written, or none
abbrev pub some_number : ℕ → List ℕ
some_number value = if value == 0 then [] else value ∷ []

-- bytes that are written, or none
abbrev pub some_bytes : List ℕ → List (List ℕ)
some_bytes [] = []
some_bytes (byte ∷ bytes) = (byte ∷ bytes) ∷ []

-- the bytes of a message that may not be set
abbrev pub some_message : {A : Type 0} → (A → List Field) → Option A → List (List ℕ)
some_message fields_of None = []
some_message fields_of (Some value) = message_bytes (fields_of value) ∷ []

-- ---- fields after one another

pub numbers-append : (key : ℕ) (these those : List Field) → numbers_of key (these ++ those) ≡ numbers_of key these ++ numbers_of key those
unfolding numbers_of
numbers-append key [] those = refl
numbers-append key (number other value ∷ these) those = elim (cases_Bool (other == key)) [
  | inl same ↦ rw same (ap (λ found. value ∷ found) (numbers-append key these those))
  | inr differs ↦ rw differs (numbers-append key these those)
]
numbers-append key (block other bytes ∷ these) those = numbers-append key these those

pub blocks-append : (key : ℕ) (these those : List Field) → blocks_of key (these ++ those) ≡ blocks_of key these ++ blocks_of key those
unfolding blocks_of
blocks-append key [] those = refl
blocks-append key (number other value ∷ these) those = blocks-append key these those
blocks-append key (block other bytes ∷ these) those = elim (cases_Bool (other == key)) [
  | inl same ↦ rw same (ap (λ found. bytes ∷ found) (blocks-append key these those))
  | inr differs ↦ rw differs (blocks-append key these those)
]

-- ---- a field of each type

pub numbers-one : (key other value : ℕ) → numbers_of key (number other value ∷ []) ≡ (if other == key then value ∷ [] else [])
unfolding numbers_of
numbers-one key other value = refl

pub blocks-one : (key other : ℕ) (bytes : List ℕ) → blocks_of key (block other bytes ∷ []) ≡ (if other == key then bytes ∷ [] else [])
unfolding blocks_of
blocks-one key other bytes = refl

pub numbers-block : (key other : ℕ) (bytes : List ℕ) → numbers_of key (block other bytes ∷ []) ≡ []
unfolding numbers_of
numbers-block key other bytes = refl

pub blocks-single : (key other value : ℕ) → blocks_of key (number other value ∷ []) ≡ []
unfolding blocks_of
blocks-single key other value = refl

neither : {A : Type 0} (none : A) (test : Bool) → (if test then none else none) ≡ none
neither none true = refl
neither none false = refl

with_first : {A : Type 0} (test : Bool) (first : A) (found others : List A) → found ≡ (if test then others else [])
    → (if test then first ∷ found else found) ≡ (if test then first ∷ others else [])
with_first true first found others same = ap (λ more. first ∷ more) same
with_first false first found others same = same

pub numbers-number : (key other value : ℕ) → numbers_of key (number_field other value) ≡ (if other == key then some_number value else [])
unfolding numbers_of number_field
numbers-number key other value = elim (cases_Bool (value == 0)) [
  | inl none ↦ rw none (sym (neither [] (other == key)))
  | inr some ↦ rw some refl
]

pub blocks-number : (key other value : ℕ) → blocks_of key (number_field other value) ≡ []
unfolding blocks_of number_field
blocks-number key other value = elim (cases_Bool (value == 0)) [ inl none ↦ rw none refl | inr some ↦ rw some refl ]

pub numbers-bytes : (key other : ℕ) (bytes : List ℕ) → numbers_of key (bytes_field other bytes) ≡ []
unfolding numbers_of bytes_field
numbers-bytes key other [] = refl
numbers-bytes key other (byte ∷ bytes) = refl

pub blocks-bytes : (key other : ℕ) (bytes : List ℕ) → blocks_of key (bytes_field other bytes) ≡ (if other == key then some_bytes bytes else [])
unfolding blocks_of bytes_field
blocks-bytes key other [] = sym (neither [] (other == key))
blocks-bytes key other (byte ∷ bytes) = refl

pub numbers-texts : (key other : ℕ) (texts : List (List ℕ)) → numbers_of key (texts_field other texts) ≡ []
unfolding numbers_of texts_field
numbers-texts key other [] = refl
numbers-texts key other (text ∷ texts) = numbers-texts key other texts

pub blocks-texts : (key other : ℕ) (texts : List (List ℕ)) → blocks_of key (texts_field other texts) ≡ (if other == key then texts else [])
unfolding blocks_of texts_field
blocks-texts key other [] = sym (neither [] (other == key))
blocks-texts key other (text ∷ texts) = with_first (other == key) text (blocks_of key (texts_field other texts)) texts (blocks-texts key other texts)

pub numbers-message : (key other : ℕ) (fields : List Field) → numbers_of key (message_field other fields) ≡ []
unfolding numbers_of message_field
numbers-message key other fields = refl

pub blocks-message : (key other : ℕ) (fields : List Field)
    → blocks_of key (message_field other fields) ≡ (if other == key then message_bytes fields ∷ [] else [])
unfolding blocks_of message_field
blocks-message key other fields = refl

module _ {A : Type 0} (fields_of : A → List Field) where
  pub numbers-optional : (key other : ℕ) (value : Option A) → numbers_of key (optional_field fields_of other value) ≡ []
  unfolding numbers_of optional_field
  numbers-optional key other None = refl
  numbers-optional key other (Some value) = numbers-message key other (fields_of value)

  pub blocks-optional : (key other : ℕ) (value : Option A)
      → blocks_of key (optional_field fields_of other value) ≡ (if other == key then some_message fields_of value else [])
  unfolding blocks_of optional_field
  blocks-optional key other None = sym (neither [] (other == key))
  blocks-optional key other (Some value) = blocks-message key other (fields_of value)

  pub numbers-messages : (key other : ℕ) (values : List A) → numbers_of key (messages_field fields_of other values) ≡ []
  unfolding numbers_of messages_field message_field
  numbers-messages key other [] = refl
  numbers-messages key other (value ∷ values) = numbers-messages key other values

  pub blocks-messages : (key other : ℕ) (values : List A)
      → blocks_of key (messages_field fields_of other values) ≡ (if other == key then map (λ value. message_bytes (fields_of value)) values else [])
  unfolding blocks_of messages_field message_field
  blocks-messages key other [] = sym (neither [] (other == key))
  blocks-messages key other (value ∷ values) =
      with_first (other == key) (message_bytes (fields_of value)) (blocks_of key (messages_field fields_of other values))
      (map (λ each. message_bytes (fields_of each)) values) (blocks-messages key other values)

-- what a message of fields of known numbers is read as
pub ruleset reads = (numbers-append, blocks-append, numbers-one, blocks-one, numbers-block, blocks-single, numbers-number, blocks-number, numbers-bytes, blocks-bytes, numbers-texts, blocks-texts, numbers-message, blocks-message, numbers-optional, blocks-optional, numbers-messages, blocks-messages, append-nil)

same-key : (key : ℕ) → (key == key) ≡ true
same-key key = grind (arith, nat_tests)

-- ---- the value again

pub last-number : (value : ℕ) → last_or 0 (some_number value) ≡ value
last-number value = grind (arith, nat_tests)

pub last-int : (value : ℤ) → FitsSigned w64 value → cast_signed w64 (last_or 0 (some_number (cast_unsigned w64 value))) ≡ value
last-int value fits = ap (cast_signed w64) (last-number (cast_unsigned w64 value)) ∙ to_z-of_z w64 value fits

pub last-flag : (value : Bool) → not (last_or 0 (some_number (from_bool value)) == 0) ≡ value
last-flag true = refl
last-flag false = refl

flag-back : (value : Bool) → not (last_or 0 (from_bool value ∷ []) == 0) ≡ value
flag-back true = refl
flag-back false = refl

pub last-bytes : (bytes : List ℕ) → last_or [] (some_bytes bytes) ≡ bytes
last-bytes [] = refl
last-bytes (byte ∷ bytes) = refl

pub joined-one : (bytes : List ℕ) → joined (bytes ∷ []) ≡ Some bytes
joined-one bytes = ap Some (append-nil bytes)

module _ {A : Type 0} (fields_of : A → List Field) (read : List ℕ → Option A) where
  -- a value is read as it was written
  abbrev pub ReadsBack : A → Type 0
  ReadsBack value = read (message_bytes (fields_of value)) ≡ Some value

  pub set-back : (value : A) → ReadsBack value → option_and_then read (joined (message_bytes (fields_of value) ∷ [])) ≡ Some value
  set-back value back = ap (option_and_then read) (joined-one (message_bytes (fields_of value))) ∙ back

  pub optional-back : (value : Option A) → ForSome value ReadsBack → read_optional read (joined (some_message fields_of value)) ≡ Some value
  optional-back None back = refl
  optional-back (Some value) back = ap (read_optional read) (joined-one (message_bytes (fields_of value))) ∙ ap (option_map Some) (back value refl)

  pub each-back : (values : List A) → AllByRecursion ReadsBack values
      → read_each read (map (λ value. message_bytes (fields_of value)) values) ≡ Some values
  each-back [] back = refl
  each-back (value ∷ values) back =
      ap (option_and_then (λ first. option_map (λ others. first ∷ others) (read_each read (map (λ each. message_bytes (fields_of each)) values)))) back.0
      ∙ ap (option_map (λ others. value ∷ others)) (each-back values back.1)

-- a message is read as it was written where its fields are
pub fields-back : {A : Type 0} (fields_of : A → List Field) (value_of : List Field → Option A) (value : A) → value_of (fields_of value) ≡ Some value
    → ReadsBack fields_of (read_as value_of) value
fields-back fields_of value_of value back = ap (option_and_then value_of) (message-back (fields_of value)) ∙ back

-- an entry is read as it was written where its value is
pub text-entry-back : (entry : List ℕ × List ℕ) → ReadsBack (entry_fields text_value) (read_as (entry_of text_value_at)) entry
unfolding blocks_of
text-entry-back entry = fields-back (entry_fields text_value) (entry_of text_value_at) entry refl

pub flag-entry-back : (entry : List ℕ × Bool) → ReadsBack (entry_fields flag_value) (read_as (entry_of flag_value_at)) entry
unfolding blocks_of numbers_of
flag-entry-back entry =
    fields-back (entry_fields flag_value) (entry_of flag_value_at) entry
    (ap (λ flag. Some (entry.0, flag)) (flag-back entry.1))

pub message-entry-back : {A : Type 0} (fields_of : A → List Field) (read : List ℕ → Option A) (entry : List ℕ × A) → ReadsBack fields_of read entry.1
    → ReadsBack (entry_fields (message_value fields_of)) (read_as (entry_of (message_at read 2))) entry
unfolding blocks_of
message-entry-back fields_of read entry back =
    fields-back (entry_fields (message_value fields_of)) (entry_of (message_at read 2)) entry
    (ap (λ bytes. option_map (λ value. (entry.0, value)) (option_and_then read bytes)) (joined-one (message_bytes (fields_of entry.1)))
    ∙ ap (option_map (λ value. (entry.0, value))) back)

-- what holds of each value holds of all of some
pub all_of : {A : Type 0} (P : A → Type 0) (values : List A) → ((value : A) → P value) → AllByRecursion P values
all_of P [] each = tt
all_of P (value ∷ values) each = (each value, all_of P values each)

-- what follows from each of some values
pub all_map : {A : Type 0} (P Q : A → Type 0) (values : List A) → ((value : A) → P value → Q value) → AllByRecursion P values → AllByRecursion Q values
all_map P Q [] each all = tt
all_map P Q (value ∷ values) each all = (each value all.0, all_map P Q values each all.1)

-- ---- among other fields

pub number-among : (key value : ℕ) (before after : List Field) → numbers_of key before ≡ [] → numbers_of key after ≡ []
    → numbers_of key ((before ++ number_field key value) ++ after) ≡ some_number value
number-among key value before after none_before none_after =
    numbers-append key (before ++ number_field key value) after
    ∙ (ap (λ found. numbers_of key (before ++ number_field key value) ++ found) none_after
    ∙ (append-nil (numbers_of key (before ++ number_field key value))
    ∙ (numbers-append key before (number_field key value)
    ∙ (ap (λ found. found ++ numbers_of key (number_field key value)) none_before
    ∙ (numbers-number key key value ∙ ap (λ test. if test then some_number value else []) (same-key key))))))

pub bytes-among : (key : ℕ) (field before after : List Field) (found : List (List ℕ)) → blocks_of key field ≡ (if key == key then found else [])
    → blocks_of key before ≡ [] → blocks_of key after ≡ [] → blocks_of key ((before ++ field) ++ after) ≡ found
bytes-among key field before after found is none_before none_after =
    blocks-append key (before ++ field) after
    ∙ (ap (λ more. blocks_of key (before ++ field) ++ more) none_after
    ∙ (append-nil (blocks_of key (before ++ field))
    ∙ (blocks-append key before field
    ∙ (ap (λ more. more ++ blocks_of key field) none_before
    ∙ (is ∙ ap (λ test. if test then found else []) (same-key key))))))
