-- What may be the file's escape character, by which a word or a line goes on in the next line (Dockerfile reference, `escape`). A line alone doesn't tell
-- which of the two it is (own).
use Rattle.std.specs.Prelude.{◌==◌, ◌-◌, ◌||◌, ℕ, Bool, false, not, List, length, slice_index, if◌then◌else◌}
use Rattle.std.specs.List.{before_first, list_any}
use Rattle.ascii.specs.Blanks.{before_blanks}

-- a character that may be the file's escape character: a backslash or a backtick
abbrev pub may_escape : ℕ → Bool
may_escape c = (c == 92) || (c == 96)

-- a word stands on its line whole: it has no such character, by which it may go on in the next line
abbrev pub is_whole : List ℕ → Bool
is_whole word = not (list_any may_escape word)

-- a word up to the first such character: as far as it stands on its line for sure
abbrev pub before_escape : List ℕ → List ℕ
before_escape word = before_first (λ c. c == 96) (before_first (λ c. c == 92) word)

-- the last character of a text may be it
abbrev pub ends_in_escape : List ℕ → Bool
ends_in_escape text = if length text == 0 then false else may_escape (slice_index text (length text - 1))

-- a line may go on in the next one: its last character that isn't blank may be the escape character (that blanks may follow it is of BuildKit's parser,
-- `lineContinuationRegex`)
abbrev pub may_go_on : List ℕ → Bool
may_go_on line = ends_in_escape (before_blanks line)
