-- What a person reads of a text that has characters which can't be seen (own).
use Rattle.std.specs.Prelude.{◌++◌, ◌/◌, ◌%◌, ◌&&◌, nat_lt, ℕ, false, List, [], ◌∷◌, chars, codes, encode_utf8, if◌then◌else◌}
use Rattle.std.specs.Fmt.{digit_glyph}
use Rattle.std.specs.List.{flat_map}
use Rattle.sentences.specs.Unseen.{is_unseen}

-- a byte as two hexadecimal digits
abbrev pub two_digits : ℕ → List ℕ
two_digits byte = digit_glyph false (byte / 16) ∷ (digit_glyph false (byte % 16) ∷ [])

-- the number of a character below U+10000, as `\x1b`, or as `\u200b` if it doesn't fit in a byte
unfoldable pub escaped : ℕ → List ℕ
escaped c = if nat_lt c 256 then codes "\\x" ++ two_digits (c % 256) else codes "\\u" ++ (two_digits (c / 256) ++ two_digits (c % 256))

-- what is shown of a character: its number if it can't be seen, and else the character
abbrev pub visible_char : ℕ → List ℕ
visible_char c = if is_unseen c && nat_lt c 65536 then escaped c else encode_utf8 c

-- A line as it is shown, so that no text can give orders to a terminal, turn what stands around it, or look like another one. It is UTF-8 here, so of its
-- bytes above 127 only the two of a character from U+0080 to U+009F are orders. A name or a comment in another script than English stays readable. What
-- is shown can't always be read back, as a line may hold `\x1b` itself.
abbrev pub visible : List ℕ → List ℕ
visible line = flat_map visible_char (chars line)
