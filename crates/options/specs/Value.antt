-- The names of flags, and what flags and the items of a mount take as values.
use Rattle.std.specs.Prelude.{ℕ, ◌==◌, ◌||◌, Bool, false, not, List, Option, Some, None, length, bytes_eq, codes}
use Rattle.words.specs.declared.flag.Flag.{Flag}

-- whether a flag has a name, compared exactly (own)
abbrev pub is_named : List ℕ → Flag → Bool
is_named name flag = bytes_eq flag.name name

-- a value that is there and isn't empty
abbrev pub is_filled : Option (List ℕ) → Bool
is_filled None = false
is_filled (Some value) = not (length value == 0)

-- `true` or `false`, compared exactly (own)
abbrev pub is_truth : List ℕ → Bool
is_truth value = bytes_eq value (codes "true") || bytes_eq value (codes "false")
