-- The flags with which the arguments of an instruction begin: pieces `--name` and `--name=value` (Dockerfile reference; that they know no quotes
-- and that `--` alone is one: own).
use Rattle.std.specs.Prelude.{ℕ, zero, suc, List, Option, Some, None, length, drop, map}
use Rattle.std.specs.List.{take_while}
use Rattle.ascii.specs.Blanks.{after_blanks}
use Rattle.ascii.specs.Pieces.{pieces, behind_piece}
use Rattle.lines.specs.Marks.{is_flag}
use Rattle.words.specs.Pairs.{pair}
use Rattle.words.specs.declared.flag.Flag.{Flag}

-- the flag of a text without its dashes, by the text's cut at its first `=`
abbrev pub flag_cut : List ℕ → Option (List ℕ × List ℕ) → Flag
flag_cut text None = record { name = text; value = None }
flag_cut text (Some cut) = record { name = cut.0; value = Some cut.1 }

-- the flag that a piece is: `--name` or `--name=value` (Dockerfile reference)
abbrev pub flag_of : List ℕ → Flag
flag_of piece = flag_cut (drop 2 piece) (pair (drop 2 piece))

-- the flags' pieces: the leading ones that begin with `--`
abbrev pub flag_pieces : List ℕ → List (List ℕ)
flag_pieces text = take_while is_flag (pieces text)

-- the flags with which a text begins
unfoldable pub flags : List ℕ → List Flag
flags text = map flag_of (flag_pieces text)

-- what stands behind so many pieces of a text
abbrev pub behind_pieces : ℕ → List ℕ → List ℕ
behind_pieces zero text = after_blanks text
behind_pieces (suc n) text = behind_pieces n (behind_piece text)

-- what is left of a text behind its flags
unfoldable pub behind_flags : List ℕ → List ℕ
behind_flags text = behind_pieces (length (flag_pieces text)) text
