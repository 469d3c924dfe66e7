-- What a field of a message is written as and read as, by its type (Protocol Buffers encoding; Protocol Buffers language guide, proto3). A
-- value that is its type's default isn't written, unless the field is one of several of which one is set, a message that is set, or an
-- entry's key or value. A list's items are written one after another. Of several fields of one number the last one counts, unless
-- it is a list. Reading is for what is written here: what other programs write, such as two members of one choice or a key twice in a map, may
-- be read otherwise elsewhere.
use Rattle.std.specs.Prelude.{ℕ, ℤ, Bool, not, ◌==◌, if◌then◌else◌, Option, Some, None, option_map, List, [], ◌∷◌, ◌++◌, map}
use Rattle.std.specs.Option.{option_and_then}
use Rattle.std.specs.List.{concat}
use Rattle.std.specs.Int.{cast_unsigned, cast_signed, from_bool, w64}
use Rattle.wire.specs.Fields.{Field, number, block}
use Rattle.wire.specs.Messages.{message_bytes, read_message}

-- ---- written

-- a number (uint32, uint64, an enum)
unfoldable pub number_field : ℕ → ℕ → List Field
number_field key value = if value == 0 then [] else number key value ∷ []

-- a number with a sign, which 64 bits hold as two's complement: a negative one takes ten bytes (int32, int64)
abbrev pub int_field : ℕ → ℤ → List Field
int_field key value = number_field key (cast_unsigned w64 value)

-- a truth value, which is 1 or 0 (bool)
abbrev pub flag_field : ℕ → Bool → List Field
flag_field key value = number_field key (from_bool value)

-- bytes or a text (bytes, string)
unfoldable pub bytes_field : ℕ → List ℕ → List Field
bytes_field key [] = []
bytes_field key (byte ∷ bytes) = block key (byte ∷ bytes) ∷ []

-- a list of texts or of bytes (repeated string, repeated bytes)
unfoldable pub texts_field : ℕ → List (List ℕ) → List Field
texts_field key texts = map (block key) texts

-- a message of these fields, which is set
unfoldable pub message_field : ℕ → List Field → List Field
message_field key fields = block key (message_bytes fields) ∷ []

-- a message that may not be set
unfoldable pub optional_field : {A : Type 0} → (A → List Field) → ℕ → Option A → List Field
optional_field fields_of key None = []
optional_field fields_of key (Some value) = message_field key (fields_of value)

-- a list of messages
unfoldable pub messages_field : {A : Type 0} → (A → List Field) → ℕ → List A → List Field
messages_field fields_of key [] = []
messages_field fields_of key (value ∷ values) = message_field key (fields_of value) ++ messages_field fields_of key values

-- a map's entry is a message of its key, which is field 1, and its value, field 2
abbrev pub entry_fields : {A : Type 0} → (A → Field) → (List ℕ × A) → List Field
entry_fields value_of entry = block 1 entry.0 ∷ (value_of entry.1 ∷ [])

-- an entry's value that is a text
abbrev pub text_value : List ℕ → Field
text_value text = block 2 text

-- a truth value
abbrev pub flag_value : Bool → Field
flag_value flag = number 2 (from_bool flag)

-- a message
abbrev pub message_value : {A : Type 0} → (A → List Field) → A → Field
message_value fields_of value = block 2 (message_bytes (fields_of value))

-- a map from texts: a list of its entries
abbrev pub map_field : {A : Type 0} → (A → Field) → ℕ → List (List ℕ × A) → List Field
map_field value_of = messages_field (entry_fields value_of)

-- ---- read

-- the numbers that the fields of one number hold
unfoldable pub numbers_of : ℕ → List Field → List ℕ
numbers_of key [] = []
numbers_of key (number other value ∷ fields) = if other == key then value ∷ numbers_of key fields else numbers_of key fields
numbers_of key (block other bytes ∷ fields) = numbers_of key fields

-- the bytes that the fields of one number hold
unfoldable pub blocks_of : ℕ → List Field → List (List ℕ)
blocks_of key [] = []
blocks_of key (number other value ∷ fields) = blocks_of key fields
blocks_of key (block other bytes ∷ fields) = if other == key then bytes ∷ blocks_of key fields else blocks_of key fields

-- the last of some values; the default where there is none
abbrev pub last_or : {A : Type 0} → A → List A → A
last_or default [] = default
last_or default (value ∷ values) = last_or value values

-- a number
abbrev pub number_at : ℕ → List Field → ℕ
number_at key fields = last_or 0 (numbers_of key fields)

-- a number with a sign
abbrev pub int_at : ℕ → List Field → ℤ
int_at key fields = cast_signed w64 (number_at key fields)

-- a truth value
abbrev pub flag_at : ℕ → List Field → Bool
flag_at key fields = not (number_at key fields == 0)

-- bytes or a text
abbrev pub bytes_at : ℕ → List Field → List ℕ
bytes_at key fields = last_or [] (blocks_of key fields)

-- the bytes of a message that may not be set: the bytes of several are one message
abbrev pub joined : List (List ℕ) → Option (List ℕ)
joined [] = None
joined (bytes ∷ more) = Some (concat (bytes ∷ more))

-- each of some values, if all are read
abbrev pub read_each : {A B : Type 0} → (A → Option B) → List A → Option (List B)
read_each read [] = Some []
read_each read (value ∷ values) = option_and_then (λ first. option_map (λ others. first ∷ others) (read_each read values)) (read value)

-- a value that may not be there, if it is read
abbrev pub read_optional : {A B : Type 0} → (A → Option B) → Option A → Option (Option B)
read_optional read None = Some None
read_optional read (Some value) = option_map Some (read value)

-- a message, from what its fields are read as
abbrev pub read_as : {A : Type 0} → (List Field → Option A) → List ℕ → Option A
read_as value_of bytes = option_and_then value_of (read_message bytes)

-- a message that has to be set
abbrev pub message_at : {A : Type 0} → (List ℕ → Option A) → ℕ → List Field → Option A
message_at read key fields = option_and_then read (joined (blocks_of key fields))

-- a message that may not be set
abbrev pub optional_at : {A : Type 0} → (List ℕ → Option A) → ℕ → List Field → Option (Option A)
optional_at read key fields = read_optional read (joined (blocks_of key fields))

-- a list of messages
abbrev pub messages_at : {A : Type 0} → (List ℕ → Option A) → ℕ → List Field → Option (List A)
messages_at read key fields = read_each read (blocks_of key fields)

-- an entry's value that is a text
abbrev pub text_value_at : List Field → Option (List ℕ)
text_value_at fields = Some (bytes_at 2 fields)

-- a truth value
abbrev pub flag_value_at : List Field → Option Bool
flag_value_at fields = Some (flag_at 2 fields)

-- a map's entry
abbrev pub entry_of : {A : Type 0} → (List Field → Option A) → List Field → Option (List ℕ × A)
entry_of read_value fields = option_map (λ value. (bytes_at 1 fields, value)) (read_value fields)

-- a map from texts, by its entries as they stand
abbrev pub map_at : {A : Type 0} → (List Field → Option A) → ℕ → List Field → Option (List (List ℕ × A))
map_at read_value = messages_at (read_as (entry_of read_value))
