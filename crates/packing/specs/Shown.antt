-- What isn't known to be text, as a person reads it (own).
use Rattle.std.specs.Prelude.{◌++◌, ◌&&◌, ℕ, Bool, List, [], ◌∷◌, nat_le, codes, encode_utf8, if◌then◌else◌}
use Rattle.std.specs.List.{flat_map}
use Rattle.hex.specs.Hex.{encode_lower}

-- a byte is a character of ASCII that is seen
abbrev pub is_seen : ℕ → Bool
is_seen byte = nat_le 32 byte && nat_le byte 126

-- such a byte stands as it is, and another one as its number, as `\xff`
abbrev pub shown_byte : ℕ → List ℕ
shown_byte byte = if is_seen byte then encode_utf8 byte else codes "\\x" ++ encode_lower (byte ∷ [])

-- bytes one after another, each as it is shown
abbrev pub shown_bytes : List ℕ → List ℕ
shown_bytes bytes = flat_map shown_byte bytes
