-- A word of a line, and where it stands (own).
use Rattle.std.specs.Prelude.{◌+◌, ◌-◌, ◌==◌, ◌&&◌, ◌||◌, not, ℕ, Bool, List, Option, Some, None, length, take, if◌then◌else◌}
use Rattle.std.specs.List.{list_any}
use Rattle.ascii.specs.Pieces.{first_piece, is_filled}
use Rattle.pointed.specs.declared.spot.Pointed as lent

-- a word of a line: the number of its first byte, counted from 1, what stands before it, and the word
pub record Spot : Type 0 where
  pub column : ℕ
  pub before : List ℕ
  pub word : List ℕ

-- the same of a word that is lent
abbrev pub spot : lent.Pointed → Spot
spot it = record { column = it.column; before = it.before.now; word = it.word.now }

-- a character that may be the file's escape character: a backslash or a backtick (Dockerfile reference, `escape`)
abbrev pub may_escape : ℕ → Bool
may_escape c = (c == 92) || (c == 96)

-- a piece is whole: no character of it may be the escape character. By one at its end it may go on in the next line, and one elsewhere may stand for itself
-- or not, which the line alone doesn't tell
abbrev pub is_whole : List ℕ → Bool
is_whole piece = not (list_any may_escape piece)

-- the first piece of what is left of a line; none if nothing is left, or the piece may go on in the next line
unfoldable pub spot_at : List ℕ → List ℕ → Option Spot
spot_at line left =
    if is_filled (first_piece left) && is_whole (first_piece left)
    then Some (record { column = (length line - length left) + 1; before = take (length line - length left) line; word = first_piece left }) else None
