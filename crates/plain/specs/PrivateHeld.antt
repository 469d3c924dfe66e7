-- Where a text's bytes lie (own).
use Rattle.std.specs.Prelude.{ℕ, List}
use Rattle.std.specs.Arc.{arc_value}
use Rattle.std.specs.String.{string_bytes}
use Rattle.plain.specs.declared.text.Held.{Held}
use Rattle.plain.specs.declared.text.Held.TheVariants.{Short, Long, Shared}

-- the bytes of a text, wherever they lie (own)
abbrev pub bytes_of : Held → List ℕ
bytes_of (Short text) = text.bytes
bytes_of (Long text) = string_bytes text
bytes_of (Shared text) = string_bytes (arc_value text)
