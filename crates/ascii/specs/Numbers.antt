-- The numbers that decimal digits write.
use Rattle.std.specs.Prelude.{ℕ, ◌^◌, ◌==◌, ◌&&◌, nat_lt, not, List, Option, Some, None, length, if◌then◌else◌}
use Rattle.std.specs.Str.{all_ascii_digits}
use Rattle.std.specs.Str.Parse.{digits_value}

-- the number that a text of decimal digits writes: one digit at least, leading zeros allowed, no sign, below 2^32 (own)
unfoldable pub decimal_of : List ℕ → Option ℕ
decimal_of text = if (not (length text == 0) && all_ascii_digits text) && nat_lt (digits_value 10 text) (2 ^ 32)
    then Some (digits_value 10 text) else None
