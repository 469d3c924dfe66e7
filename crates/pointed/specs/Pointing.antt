-- Which word of a line a fault is about, as far as the line alone tells: it is the first one of its instruction (own).
use Rattle.std.specs.Prelude.{◌||◌, ℕ, Bool, true, false, not, List, Option, None, bytes_eq, codes, option_and_then, if◌then◌else◌}
use Rattle.plain.specs.declared.refusal.Code.{Code}
use Rattle.plain.specs.declared.refusal.Code.TheVariants.{R04, R07, R17}
use Rattle.ascii.specs.Blanks.{after_blanks}
use Rattle.ascii.specs.Pieces.{behind_piece, first_piece, pieces}
use Rattle.words.specs.Flag.{behind_flags, behind_pieces}
use Rattle.sentences.specs.Subject.{subject_of}
use Rattle.sentences.specs.declared.subject.Subject.{Subject}
use Rattle.sentences.specs.declared.subject.Subject.TheVariants.{Run, Copy}
use Rattle.pointed.specs.First.{first_that}
use Rattle.pointed.specs.Flag.{flag_number}
use Rattle.pointed.specs.Spot.{Spot, spot_at}
use Rattle.pointed.specs.Word.{word_number}

-- R07 is about a flag
abbrev pub is_of_flag : Code → Bool
is_of_flag R07 = true
is_of_flag code = false

-- of COPY and RUN each code that is about a word is about a flag
abbrev pub has_flags : Subject → Bool
has_flags Copy = true
has_flags Run = true
has_flags subject = false

-- the number of the word that a code is about, among those of the text after an instruction's name
abbrev pub number_of : Code → Subject → List ℕ → Option ℕ
number_of code subject text =
    if is_of_flag code || has_flags subject then flag_number code subject text else word_number code subject (pieces text)

-- the word of this number among those after the name of a line's instruction
abbrev pub spot_after : List ℕ → ℕ → Option Spot
spot_after line number = spot_at line (behind_pieces number (behind_piece line))

-- The word of a line that a refusal by this code is about. By R04 it is the name of the instruction.
unfoldable pub pointed : Code → List ℕ → Option Spot
pointed R04 line = spot_at line (after_blanks line)
pointed code line = option_and_then (spot_after line) (number_of code (subject_of line) (behind_piece line))

-- a text is flags alone, after which its instruction goes on in the next line: what follows them is what may be the escape character
abbrev pub are_flags_alone : List ℕ → Bool
are_flags_alone text = bytes_eq (first_piece (behind_flags text)) (codes "\\") || bytes_eq (first_piece (behind_flags text)) (codes "`")

-- a flag tells by itself that a code is about it, whatever stands on other lines: by R12 another one may be it
abbrev pub tells_alone : Code → Bool
tells_alone R07 = true
tells_alone R17 = true
tells_alone code = false

-- the flag of a later line of an instruction that a refusal by this code is about, where all lines before it have the instruction's name and flags alone
abbrev pub pointed_later : Code → Subject → List ℕ → Option Spot
pointed_later code subject line = if not (tells_alone code) then None else option_and_then (λ number. spot_at line (behind_pieces number line)) (flag_number code subject line)

-- the number of the first of some pieces that is this word
abbrev pub number_of_word : List ℕ → List (List ℕ) → Option ℕ
number_of_word word pieces = first_that (λ begun piece. bytes_eq piece word) pieces

-- the first piece of a line that is this word
abbrev pub spotted : List ℕ → List ℕ → Option Spot
spotted word line = option_and_then (λ number. spot_at line (behind_pieces number line)) (number_of_word word (pieces line))
