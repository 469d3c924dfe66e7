-- A message on the wire (Protocol Buffers encoding, "Message Structure"): its fields one after another, and nothing else.
use Rattle.std.specs.Prelude.{ℕ, zero, suc, Option, Some, None, option_map, List, [], ◌∷◌, ◌++◌, length}
use Rattle.std.specs.Option.{option_and_then}
use Rattle.wire.specs.Fields.{Field, field_bytes, read_field}

-- the bytes of a message of these fields
unfoldable pub message_bytes : List Field → List ℕ
message_bytes [] = []
message_bytes (field ∷ fields) = field_bytes field ++ message_bytes fields

-- the fields that bytes spell, `more` at most
abbrev pub fields_within : ℕ → List ℕ → Option (List Field)
fields_within more [] = Some []
fields_within zero (byte ∷ bytes) = None
fields_within (suc more) (byte ∷ bytes) =
    option_and_then (λ found. option_map (λ fields. found.0 ∷ fields) (fields_within more found.1)) (read_field (byte ∷ bytes))

-- the fields that bytes spell from their beginning to their end; a field takes a byte at least
unfoldable pub read_message : List ℕ → Option (List Field)
read_message bytes = fields_within (length bytes) bytes
