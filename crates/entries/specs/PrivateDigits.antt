-- How hexadecimal is read, two digits at a time; it says what `hex` says, but not what is wrong where no bytes are spelt (`DigitFacts`).
use Rattle.std.specs.Prelude.{ℕ, ◌+◌, ◌*◌, ◌&&◌, Option, Some, None, List, [], ◌∷◌, nat_lt, unwrap_or, if◌then◌else◌}
use Rattle.std.specs.Option.{option_and_then, option_map}
use Rattle.hex.specs.Hex.{hex_digit_value}

-- the value of a digit, in either case, and 16 for what is none
abbrev pub digit_number : ℕ → ℕ
digit_number c = unwrap_or (hex_digit_value c) 16

-- the byte of two digits
abbrev pub byte_of : ℕ → ℕ → Option ℕ
byte_of high low = if nat_lt (digit_number high) 16 && nat_lt (digit_number low) 16 then Some (digit_number high * 16 + digit_number low) else None

-- the bytes of pairs of digits
abbrev pub pairs_of : List ℕ → Option (List ℕ)
pairs_of [] = Some []
pairs_of (digit ∷ []) = None
pairs_of (high ∷ low ∷ rest) = option_and_then (λ byte. option_map (λ bytes. byte ∷ bytes) (pairs_of rest)) (byte_of high low)
