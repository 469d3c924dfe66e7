use Rattle.std.proofs.Common.{◌≡◌, ℕ, zero, suc, ◌+◌, ◌-◌, ◌*◌, ◌/◌, ◌%◌, ◌^◌, ◌<◌, ◌≤◌, List, [], ◌∷◌, ◌++◌, length, arith, refl, inl, inr, Some, option_map, pow_pos}
use Rattle.std.proofs.lemmas.Bool.{cases_lt}
use Rattle.std.proofs.lemmas.Bool.Decides.{nat_tests}
use Rattle.std.proofs.lemmas.Nat.{div-add-mod', pow-add}
use Rattle.std.proofs.lemmas.List.{append_assoc}
use Rattle.wire.specs.Varint.{bytes_within, read_within, with_low_bits, varint, read_varint}

pub bytes-last : (more value : ℕ) → value < 128 → bytes_within more value ≡ value ∷ []
bytes-last zero value small = refl
bytes-last (suc more) value small = grind (arith, nat_tests)

pub bytes-more : (more value : ℕ) → 128 ≤ value → bytes_within (suc more) value ≡ (128 + value % 128) ∷ bytes_within more (value / 128)
bytes-more more value large = grind (arith, nat_tests)

read-last : (more byte : ℕ) (rest : List ℕ) → byte < 128 → read_within (suc more) (byte ∷ rest) ≡ Some (byte, rest)
read-last more byte rest small = grind (arith, nat_tests)

read-more : (more byte : ℕ) (rest : List ℕ) → 128 ≤ byte
    → read_within (suc more) (byte ∷ rest) ≡ option_map (with_low_bits byte) (read_within more rest)
read-more more byte rest large = grind (arith, nat_tests)

whole : (value : ℕ) → value / 128 * 128 + (128 + value % 128 - 128) ≡ value
whole value = omega (arith, div-add-mod' value 128)

pub reads-back : (more value : ℕ) (rest : List ℕ) → read_within more (bytes_within more value ++ rest) ≡ Some (value, rest)
reads-back zero value rest = refl
reads-back (suc more) value rest = elim (cases_lt value 128) [
  | inl small ↦ grind (arith, bytes-last (suc more) value small, read-last more value rest small)
  | inr large ↦ grind (
    arith,
    bytes-more more value large,
    read-more more (128 + value % 128) (bytes_within more (value / 128) ++ rest) (omega arith),
    reads-back more (value / 128) rest,
    whole value,
  )
]

quotient-bound : (bound value : ℕ) → value < bound * 128 → value / 128 < bound
quotient-bound bound value small = omega (arith, div-add-mod' value 128)

seven-more : (n : ℕ) → 2 ^ (7 * suc n + 1) ≡ 2 ^ (7 * n + 1) * 128
seven-more n = grind (arith, pow-add 2 (7 * n + 1) 7)

step : (n value : ℕ) (before out new : List ℕ) → 128 ≤ value → out ++ bytes_within (suc n) value ≡ before
    → new ≡ out ++ ((128 + value % 128) ∷ []) → new ++ bytes_within n (value / 128) ≡ before
step n value before out new large same pushed = grind (arith, bytes-more n value large, append_assoc out ((128 + value % 128) ∷ []) (bytes_within n (value / 128)))

-- one byte further: fewer may have 128 added, and what is to be written stays
pub advance : (more value : ℕ) (before out new : List ℕ) → 128 ≤ value → value < 2 ^ (7 * more + 1) → out ++ bytes_within more value ≡ before
    → new ≡ out ++ ((128 + value % 128) ∷ []) → (x : ℕ) × (value / 128 < 2 ^ (7 * x + 1)) × (new ++ bytes_within x (value / 128) ≡ before)
advance zero value before out new large bound same pushed = absurd (omega arith)
advance (suc n) value before out new large bound same pushed =
    (n, quotient-bound (2 ^ (7 * n + 1)) value (omega (arith, seven-more n)), step n value before out new large same pushed)

pub varint-back : (value : ℕ) (rest : List ℕ) → read_varint (varint value ++ rest) ≡ Some (value, rest)
unfolding varint read_varint
varint-back value rest = reads-back 9 value rest

within-length : (more value : ℕ) → 0 < length (bytes_within more value)
within-length zero value = omega arith
within-length (suc more) value = elim (cases_lt value 128) [
  | inl small ↦ rw (bytes-last (suc more) value small) (omega arith)
  | inr large ↦ rw (bytes-more more value large) (omega arith)
]

-- a number takes a byte at least
pub varint-length : (value : ℕ) → 0 < length (varint value)
unfolding varint
varint-length value = within-length 9 value

-- one byte more for each seven bits
all-length : (more value : ℕ) → 2 ^ (7 * more) ≤ value → length (bytes_within more value) ≡ more + 1
all-length zero value large = omega arith
all-length (suc n) value large =
    let more : 2 ^ (7 * suc n) ≡ 2 ^ (7 * n) * 128 = grind (arith, pow-add 2 (7 * n) 7) in
    let one : 1 ≤ 2 ^ (7 * n) = grind (arith, pow_pos (7 * n)) in
    let quotient : 2 ^ (7 * n) ≤ value / 128 = omega (arith, div-add-mod' value 128) in
    rw (bytes-more n value (omega arith)) (omega (arith, all-length n (value / 128) quotient))

pub ten-bytes : (value : ℕ) → 2 ^ 63 ≤ value → length (varint value) ≡ 10
unfolding varint
ten-bytes value large = all-length 9 value large
