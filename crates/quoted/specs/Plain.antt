-- Which bytes stand for themselves in a JSON string (RFC 8259, 7).
use Rattle.std.specs.Prelude.{ℕ, Bool, not, ◌&&◌, ◌==◌, nat_le}

-- a byte that stands for itself in a string: it is no control character, no `"` and no `\`
abbrev pub is_plain : ℕ → Bool
is_plain byte = nat_le 32 byte && (not (byte == 34) && not (byte == 92))
