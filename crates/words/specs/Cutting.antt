-- The words of a text, which stand between its blanks, and whether a quote of it is open (Dockerfile reference, escaping and quoting).
use Rattle.std.specs.Prelude.{◌≡◌, ℕ, Bool, true, false, List, [], ◌∷◌, ◌++◌}
use Rattle.ascii.specs.Pieces.{if_any}
use Rattle.lines.specs.declared.escape.Escape.{Escape}
use Rattle.words.specs.Class.{class_of}
use Rattle.words.specs.declared.class.Class.{Class}
use Rattle.words.specs.declared.class.Class.TheVariants.{SingleQuote, DoubleQuote, EscapeCharacter}
use Rattle.words.specs.Parts.{Part, blank, open_single, open_double, part_text, IsMadeOf}
use Rattle.words.specs.ReadParts.{parts}

-- the words among parts, of which `word` was read since the last blank: the runs between blanks, as they are written
abbrev pub words_among : Escape → List ℕ → List Part → List (List ℕ)
words_among escape word [] = if_any word
words_among escape word (blank character ∷ parts) = if_any word ++ words_among escape [] parts
words_among escape word (part ∷ parts) = words_among escape (word ++ part_text escape part) parts

-- these are the words of a text: what stands between its blanks (Dockerfile reference, escaping and quoting)
abbrev pub AreWords : Escape → List ℕ → List (List ℕ) → Type 0
AreWords escape text found = (parts : List Part) × IsMadeOf escape text parts × (found ≡ words_among escape [] parts)

-- whether a quote among parts is open
abbrev pub has_open : List Part → Bool
has_open [] = false
has_open (open_single characters ∷ parts) = true
has_open (open_double held ∷ parts) = true
has_open (_ ∷ parts) = has_open parts

-- a text has an open quote
abbrev pub IsOpen : Escape → List ℕ → Type 0
IsOpen escape text = (parts : List Part) × IsMadeOf escape text parts × (has_open parts ≡ true)

-- the words of a text, which `AreWords` means
unfoldable pub words : Escape → List ℕ → List (List ℕ)
words escape text = words_among escape [] (parts escape text)

-- whether a text has an open quote, which `IsOpen` means
unfoldable pub ends_open : Escape → List ℕ → Bool
ends_open escape text = has_open (parts escape text)

-- a character that neither begins a quote nor is an escape character
abbrev pub is_bare : Class → Bool
is_bare SingleQuote = false
is_bare DoubleQuote = false
is_bare EscapeCharacter = false
is_bare _ = true

-- a text without quotes and escape characters
abbrev pub AreUnquoted : Escape → List ℕ → Type 0
AreUnquoted escape [] = Unit {0}
AreUnquoted escape (character ∷ characters) = (is_bare (class_of escape character) ≡ true) × AreUnquoted escape characters
