-- Owners and modes: numbers alone, where Docker takes names and symbols too (own).
use Rattle.std.specs.Prelude.{ℕ, ◌+◌, ◌-◌, ◌*◌, ◌==◌, ◌&&◌, nat_le, List, [], ◌∷◌, Option, Some, None, option_and_then, length, if◌then◌else◌}
use Rattle.std.specs.List.{position_or_len, before_first, after_first}
use Rattle.ascii.specs.Numbers.{decimal_of}
use Rattle.plain.specs.declared.owner.Owner.{Owner}

-- the owner of two numbers, where both are there
abbrev pub owner_from : Option ℕ → Option ℕ → Option Owner
owner_from None group = None
owner_from (Some user) None = None
owner_from (Some user) (Some group) = Some (record { user = user; group = group })

-- an owner: `user:group`, or `user` alone, whose group has that number too; both are decimal digits below 2^32 (Dockerfile reference,
-- `COPY --chown`; the form of the numbers: own)
unfoldable pub owner_of : List ℕ → Option Owner
owner_of text = if position_or_len (λ character. character == 58) text == length text then owner_from (decimal_of text) (decimal_of text)
    else owner_from (decimal_of (before_first (λ character. character == 58) text)) (decimal_of (after_first (λ character. character == 58) text))

-- the value of an octal digit
abbrev pub octal_digit : ℕ → Option ℕ
octal_digit character = if nat_le 48 character && nat_le character 55 then Some (character - 48) else None

-- the mode of four octal digits, where all are there
abbrev pub mode_with : ℕ → Option ℕ → Option ℕ → Option ℕ → Option ℕ
mode_with first None third fourth = None
mode_with first (Some second) None fourth = None
mode_with first (Some second) (Some third) None = None
mode_with first (Some second) (Some third) (Some fourth) = Some (((first * 8 + second) * 8 + third) * 8 + fourth)

-- a mode: three or four octal digits (Dockerfile reference, `COPY --chmod`; how many: own)
unfoldable pub mode_of : List ℕ → Option ℕ
mode_of [] = None
mode_of (a ∷ []) = None
mode_of (a ∷ b ∷ []) = None
mode_of (second ∷ third ∷ fourth ∷ []) = mode_with 0 (octal_digit second) (octal_digit third) (octal_digit fourth)
mode_of (first ∷ second ∷ third ∷ fourth ∷ []) =
    option_and_then (λ digit. mode_with digit (octal_digit second) (octal_digit third) (octal_digit fourth)) (octal_digit first)
mode_of (a ∷ b ∷ c ∷ d ∷ e ∷ rest) = None
