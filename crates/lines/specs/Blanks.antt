-- What blanks and tabs say of a line: whether it is a comment, blank, or continued.
use Rattle.std.specs.Prelude.{ℕ, ◌-◌, Bool, false, List, [], ◌∷◌, ◌==◌, ◌||◌, ◌&&◌, not, if◌then◌else◌, length, take, slice_index, Option, Some, None}
use Rattle.ascii.specs.Blanks.{after_blanks, before_blanks}

-- a text without its leading tabs
abbrev pub after_tabs : List ℕ → List ℕ
after_tabs [] = []
after_tabs (character ∷ characters) = if character == 9 then after_tabs characters else character ∷ characters

-- whether a text begins with a character
abbrev pub starts_with : ℕ → List ℕ → Bool
starts_with character [] = false
starts_with character (other ∷ others) = other == character

-- whether a text ends with a character
abbrev pub ends_with : ℕ → List ℕ → Bool
ends_with character text = if length text == 0 then false else slice_index text (length text - 1) == character

-- what a text that continues adds to its logical line: what stands before the escape character at its end; none where it ends
-- otherwise, or where the character before that is one too, and it doesn't continue (BuildKit's parser, `lineContinuationRegex`)
abbrev pub part_before : ℕ → List ℕ → Option (List ℕ)
part_before escape text = if ends_with escape text && not (ends_with escape (take (length text - 1) text)) then Some (take (length text - 1) text) else None

-- what a line adds where it continues: its last character that isn't blank is the escape character (Dockerfile reference, `escape`;
-- that blanks may follow it is of BuildKit's parser, `lineContinuationRegex`)
abbrev pub continued_part : ℕ → List ℕ → Option (List ℕ)
continued_part escape line = part_before escape (before_blanks line)

-- a line of blanks alone (own)
abbrev pub is_blank_line : List ℕ → Bool
is_blank_line line = length (after_blanks line) == 0

-- a line whose first character that isn't blank is `#` (Dockerfile reference, comments)
abbrev pub is_comment : List ℕ → Bool
is_comment line = starts_with 35 (after_blanks line)

-- comments and blank lines, which are dropped, also inside a continuation (Dockerfile reference, comments; blank lines inside one as
-- BuildKit's parser drops them)
abbrev pub is_skipped : List ℕ → Bool
is_skipped line = is_blank_line line || is_comment line
