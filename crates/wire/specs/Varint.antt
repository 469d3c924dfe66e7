-- Numbers on the wire (Protocol Buffers encoding, "Base 128 Varints").
use Rattle.std.specs.Prelude.{ℕ, zero, suc, ◌+◌, ◌-◌, ◌*◌, ◌/◌, ◌%◌, Option, Some, None, option_map, List, [], ◌∷◌, nat_lt, if◌then◌else◌}

-- seven bits of a number a byte, the low ones first; each byte but the last has 128 added, which at most `more` bytes may have
abbrev pub bytes_within : ℕ → ℕ → List ℕ
bytes_within zero value = value ∷ []
bytes_within (suc more) value = if nat_lt value 128 then value ∷ [] else ((128 + value % 128) ∷ bytes_within more (value / 128))

-- the bytes of a number below 2^64, of which there are ten at most
unfoldable pub varint : ℕ → List ℕ
varint value = bytes_within 9 value

-- a byte's seven bits and what was read after it, which counts 128 times as much
abbrev pub with_low_bits : ℕ → (ℕ × List ℕ) → ℕ × List ℕ
with_low_bits byte found = (found.0 * 128 + (byte - 128), found.1)

-- the number at the beginning of some bytes, and what follows it; at most `more` of its bytes have 128 added, and the one after those ends
-- the number whatever it is
abbrev pub read_within : ℕ → List ℕ → Option (ℕ × List ℕ)
read_within more [] = None
read_within zero (byte ∷ rest) = Some (byte, rest)
read_within (suc more) (byte ∷ rest) = if nat_lt byte 128 then Some (byte, rest) else option_map (with_low_bits byte) (read_within more rest)

-- the number at the beginning of some bytes, and what follows it
unfoldable pub read_varint : List ℕ → Option (ℕ × List ℕ)
read_varint bytes = read_within 9 bytes
