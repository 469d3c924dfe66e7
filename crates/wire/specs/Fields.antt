-- A field on the wire (Protocol Buffers encoding, "Message Structure"): its number and the kind of what it holds together as one varint, and
-- then what it holds. Two kinds serve here: a varint, and a length with as many bytes.
use Rattle.std.specs.Prelude.{ℕ, ◌+◌, ◌*◌, ◌/◌, ◌%◌, Option, Some, None, option_map, List, ◌++◌, length, take, drop, nat_lt, ◌==◌, if◌then◌else◌}
use Rattle.std.specs.Option.{option_and_then}
use Rattle.wire.specs.Varint.{varint, read_varint}

-- a field: its number and a number that it holds (wire type 0, VARINT), or its number and the bytes of a text, of bytes or of a message
-- (wire type 2, LEN)
pub data Field : Type 0 where
  number : ℕ → ℕ → Field
  block : ℕ → List ℕ → Field

-- the bytes of a field
unfoldable pub field_bytes : Field → List ℕ
field_bytes (number key value) = varint (key * 8) ++ varint value
field_bytes (block key bytes) = varint (key * 8 + 2) ++ (varint (length bytes) ++ bytes)

-- the field of a number that was read
abbrev pub number_read : ℕ → (ℕ × List ℕ) → Field × List ℕ
number_read tag found = (number (tag / 8) found.0, found.1)

-- the field of as many bytes as the length that was read says, if there are so many
abbrev pub block_read : ℕ → (ℕ × List ℕ) → Option (Field × List ℕ)
block_read tag found = if nat_lt (length found.1) found.0 then None else Some (block (tag / 8) (take found.0 found.1), drop found.0 found.1)

-- the field whose number and kind were read, and what follows it
abbrev pub field_read : (ℕ × List ℕ) → Option (Field × List ℕ)
field_read tag =
    if tag.0 % 8 == 0 then option_map (number_read tag.0) (read_varint tag.1)
    else if tag.0 % 8 == 2 then option_and_then (block_read tag.0) (read_varint tag.1)
    else None

-- the field at the beginning of some bytes, and what follows it
unfoldable pub read_field : List ℕ → Option (Field × List ℕ)
read_field bytes = option_and_then field_read (read_varint bytes)
