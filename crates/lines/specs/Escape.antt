-- The escape characters, and their bytes.
use Rattle.std.specs.Prelude.{ℕ, List, [], ◌∷◌, Option, Some, None, bytes_eq, if◌then◌else◌}
use Rattle.lines.specs.declared.escape.Escape.{Escape}
use Rattle.lines.specs.declared.escape.Escape.TheVariants.{Backslash, Backtick}

-- the escape character's byte
abbrev pub byte_of : Escape → ℕ
byte_of Backslash = 92
byte_of Backtick = 96

-- the escape character that a directive's value names: a backslash or a backtick, and no other (Dockerfile
-- reference, `escape`)
abbrev pub escape_named : List ℕ → Option Escape
escape_named value = if bytes_eq value (92 ∷ []) then Some Backslash else (if bytes_eq value (96 ∷ []) then Some Backtick else None)
