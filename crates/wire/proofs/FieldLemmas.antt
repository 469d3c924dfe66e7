use Rattle.std.proofs.Common.{◌≡◌, ℕ, ◌+◌, ◌*◌, ◌/◌, ◌%◌, ◌<◌, List, ◌++◌, length, arith, Some}
use Rattle.std.proofs.lemmas.Bool.Decides.{nat_tests}
use Rattle.std.proofs.lemmas.List.{append_assoc, length-append}
use Rattle.std.proofs.Math.Seq.{take-append_seam, drop-append_seam}
use Rattle.wire.specs.Varint.{varint}
use Rattle.wire.specs.Fields.{Field, number, block, field_bytes, block_read, field_read, read_field}
use Rattle.wire.proofs.VarintLemmas.{varint-back, varint-length}

number-kind : (key : ℕ) → key * 8 % 8 ≡ 0
number-kind key = omega arith

number-key : (key : ℕ) → key * 8 / 8 ≡ key
number-key key = omega arith

block-kind : (key : ℕ) → (key * 8 + 2) % 8 ≡ 2
block-kind key = omega arith

block-key : (key : ℕ) → (key * 8 + 2) / 8 ≡ key
block-key key = omega arith

number-after : (key value : ℕ) (rest : List ℕ) → field_read (key * 8, varint value ++ rest) ≡ Some (number key value, rest)
number-after key value rest = grind (arith, nat_tests, number-kind key, number-key key, varint-back value rest)

block-cut : (key : ℕ) (bytes rest : List ℕ) → block_read (key * 8 + 2) (length bytes, bytes ++ rest) ≡ Some (block key bytes, rest)
block-cut key bytes rest = grind (arith, nat_tests, block-key key, length-append bytes rest, take-append_seam bytes rest, drop-append_seam bytes rest)

block-after : (key : ℕ) (bytes rest : List ℕ) → field_read (key * 8 + 2, varint (length bytes) ++ (bytes ++ rest)) ≡ Some (block key bytes, rest)
block-after key bytes rest = grind (arith, nat_tests, block-kind key, varint-back (length bytes) (bytes ++ rest), block-cut key bytes rest)

pub field-back : (field : Field) (rest : List ℕ) → read_field (field_bytes field ++ rest) ≡ Some (field, rest)
unfolding read_field field_bytes
field-back (number key value) rest = grind (arith, append_assoc (varint (key * 8)) (varint value) rest, varint-back (key * 8) (varint value ++ rest), number-after key value rest)
field-back (block key bytes) rest = grind (
  arith,
  append_assoc (varint (key * 8 + 2)) (varint (length bytes) ++ bytes) rest,
  append_assoc (varint (length bytes)) bytes rest,
  varint-back (key * 8 + 2) (varint (length bytes) ++ (bytes ++ rest)),
  block-after key bytes rest,
)

pub number_joined : (out now after : List ℕ) (key value : ℕ) → now ≡ out ++ varint (key * 8) → after ≡ now ++ varint value
    → after ≡ out ++ field_bytes (number key value)
unfolding field_bytes
number_joined out now after key value first second = grind (arith, append_assoc out (varint (key * 8)) (varint value))

pub block_joined : (out now middle after bytes : List ℕ) (key : ℕ) → now ≡ out ++ varint (key * 8 + 2) → middle ≡ now ++ varint (length bytes)
    → after ≡ middle ++ bytes → after ≡ out ++ field_bytes (block key bytes)
unfolding field_bytes
block_joined out now middle after bytes key first second third = grind (
  arith,
  append_assoc out (varint (key * 8 + 2)) (varint (length bytes) ++ bytes),
  append_assoc (out ++ varint (key * 8 + 2)) (varint (length bytes)) bytes,
)

-- a field takes a byte at least
pub field-length : (field : Field) → 0 < length (field_bytes field)
unfolding field_bytes
field-length (number key value) = grind (arith, length-append (varint (key * 8)) (varint value), varint-length (key * 8))
field-length (block key bytes) =
    grind (arith, length-append (varint (key * 8 + 2)) (varint (length bytes) ++ bytes), varint-length (key * 8 + 2))
