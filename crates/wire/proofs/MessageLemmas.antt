-- Messages are read as they were written, and grow at their end.
use Rattle.std.proofs.Common.{◌≡◌, ℕ, zero, suc, ◌<◌, ◌≤◌, List, [], ◌∷◌, ◌++◌, length, arith, refl, sym, ap, ◌∙◌, Some, option_map, unwrap_or, length-append}
use Rattle.std.specs.Option.{option_and_then}
use Rattle.std.proofs.lemmas.List.{append_assoc, append-nil}
use Rattle.wire.specs.Fields.{Field, field_bytes, read_field}
use Rattle.wire.specs.Messages.{message_bytes, fields_within, read_message}
use Rattle.wire.specs.PrivateMessage.{fields_in}
use Rattle.wire.proofs.FieldLemmas.{field-back, field-length}

within-nonempty : (more : ℕ) (bytes : List ℕ) → 0 < length bytes
    → fields_within (suc more) bytes ≡ option_and_then (λ found. option_map (λ fields. found.0 ∷ fields) (fields_within more found.1)) (read_field bytes)
within-nonempty more [] some = absurd (omega arith)
within-nonempty more (byte ∷ bytes) some = refl

within-more : (more : ℕ) (field : Field) (rest : List ℕ)
    → fields_within (suc more) (field_bytes field ++ rest) ≡ option_map (λ fields. field ∷ fields) (fields_within more rest)
within-more more field rest =
    within-nonempty more (field_bytes field ++ rest) (omega (arith, length-append (field_bytes field) rest, field-length field))
    ∙ ap (λ read. option_and_then (λ found. option_map (λ fields. found.0 ∷ fields) (fields_within more found.1)) read) (field-back field rest)

within-back : (more : ℕ) (fields : List Field) → length (message_bytes fields) ≤ more → fields_within more (message_bytes fields) ≡ Some fields
unfolding message_bytes
within-back more [] enough = refl
within-back zero (field ∷ fields) enough = absurd (omega (arith, length-append (field_bytes field) (message_bytes fields), field-length field))
within-back (suc more) (field ∷ fields) enough =
    within-more more field (message_bytes fields)
    ∙ ap (option_map (λ others. field ∷ others))
    (within-back more fields (omega (arith, length-append (field_bytes field) (message_bytes fields), field-length field)))

pub message-back : (fields : List Field) → read_message (message_bytes fields) ≡ Some fields
unfolding read_message
message-back fields = within-back (length (message_bytes fields)) fields (omega arith)

-- what a message is read as where its fields were written
pub fields_back : (fields : List Field) → fields_in (message_bytes fields) ≡ fields
unfolding fields_in
fields_back fields = ap (λ read. unwrap_or read []) (message-back fields)

pub message-same : (these those : List Field) → message_bytes these ≡ message_bytes those → these ≡ those
message-same these those same = sym (fields_back these) ∙ (ap fields_in same ∙ fields_back those)

pub bytes-append : (fields more : List Field) → message_bytes (fields ++ more) ≡ message_bytes fields ++ message_bytes more
unfolding message_bytes
bytes-append [] more = refl
bytes-append (field ∷ fields) more =
    ap (λ bytes. field_bytes field ++ bytes) (bytes-append fields more) ∙ sym (append_assoc (field_bytes field) (message_bytes fields) (message_bytes more))

pub bytes-one : (field : Field) → message_bytes (field ∷ []) ≡ field_bytes field
unfolding message_bytes
bytes-one field = append-nil (field_bytes field)

pub bytes-more : (fields : List Field) (field : Field) → message_bytes (fields ++ field ∷ []) ≡ message_bytes fields ++ field_bytes field
bytes-more fields field = bytes-append fields (field ∷ []) ∙ ap (λ bytes. message_bytes fields ++ bytes) (bytes-one field)

-- a message that is seen as its fields, and one field more
pub grown : (old new : List ℕ) (field : Field) → message_bytes (fields_in old) ≡ old → new ≡ old ++ field_bytes field
    → new ≡ message_bytes (fields_in old ++ field ∷ [])
grown old new field spelled more = more ∙ (ap (λ bytes. bytes ++ field_bytes field) (sym spelled) ∙ sym (bytes-more (fields_in old) field))

pub grown-view : (old new : List ℕ) (field : Field) → message_bytes (fields_in old) ≡ old → new ≡ old ++ field_bytes field
    → fields_in new ≡ fields_in old ++ field ∷ []
grown-view old new field spelled more = ap fields_in (grown old new field spelled more) ∙ fields_back (fields_in old ++ field ∷ [])

pub grown-invariant : (old new : List ℕ) (field : Field) → message_bytes (fields_in old) ≡ old → new ≡ old ++ field_bytes field
    → message_bytes (fields_in new) ≡ new
grown-invariant old new field spelled more = ap message_bytes (grown-view old new field spelled more) ∙ sym (grown old new field spelled more)

pub empty-view : fields_in [] ≡ []
unfolding fields_in read_message
empty-view = refl

pub empty-bytes : message_bytes [] ≡ []
unfolding message_bytes
empty-bytes = refl
