-- Paths that are read of texts, against their limits.
use Rattle.std.specs.Prelude.{ℕ, Bool, List, is_none}
use Rattle.paths.specs.Reading.{limit_of}

-- a path is within the limits of its depth and of its components' lengths (own)
abbrev pub is_within : List (List ℕ) → Bool
is_within path = is_none (limit_of path)
