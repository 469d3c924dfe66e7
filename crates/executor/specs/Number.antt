-- The statuses that the fixture's `fail` takes (own).
use Rattle.std.specs.Prelude.{ℕ, List, Option, Some, None, ◌&&◌, nat_lt, if◌then◌else◌}
use Rattle.ascii.specs.Numbers.{decimal_of}

-- a number as an exit status, where it is one from 1 to 255
abbrev pub status_from : Option ℕ → Option ℕ
status_from None = None
status_from (Some number) = if nat_lt 0 number && nat_lt number 256 then Some number else None

-- the status that a text writes, if it writes one: decimal digits alone, leading zeros allowed, no sign
abbrev pub status_of : List ℕ → Option ℕ
status_of text = status_from (decimal_of text)
