-- Letters, digits and the names that are made of them, by their numbers in ASCII.
use Rattle.std.specs.Prelude.{ℕ, Bool, true, false, List, [], ◌∷◌, ◌==◌, ◌||◌, ◌&&◌, nat_le, if◌then◌else◌}

-- a decimal digit, `0` to `9`
abbrev pub is_digit : ℕ → Bool
is_digit c = nat_le 48 c && nat_le c 57

-- a letter, `A` to `Z` or `a` to `z`
abbrev pub is_letter : ℕ → Bool
is_letter c = (nat_le 65 c && nat_le c 90) || (nat_le 97 c && nat_le c 122)

-- a letter or `_`, with which a name begins
abbrev pub begins_name : ℕ → Bool
begins_name c = is_letter c || (c == 95)

-- a letter, a digit or `_`
abbrev pub is_in_name : ℕ → Bool
is_in_name c = begins_name c || is_digit c

-- letters, digits and `_` alone
abbrev pub are_in_name : List ℕ → Bool
are_in_name [] = true
are_in_name (c ∷ cs) = if is_in_name c then are_in_name cs else false

-- a name: a letter or `_` followed by letters, digits or `_` (own)
abbrev pub is_name : List ℕ → Bool
is_name [] = false
is_name (c ∷ cs) = if begins_name c then are_in_name cs else false
