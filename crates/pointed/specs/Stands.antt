-- What it means that a word stands in a line, whatever finds it (own).
use Rattle.std.specs.Prelude.{◌≡◌, ◌≢◌, ◌+◌, ◌++◌, ℕ, Bool, true, false, List, [], ◌∷◌, codes, drop, length, map}
use Rattle.std.specs.List.{list_all, list_any}
use Rattle.std.specs.Str.{str_eq_ignore_ascii_case}
use Rattle.ascii.specs.Blanks.{is_blank}
use Rattle.ascii.specs.Pieces.{pieces}
use Rattle.lines.specs.Marks.{is_flag}
use Rattle.words.specs.Flag.{flag_of}
use Rattle.words.specs.declared.flag.Flag.{Flag}
use Rattle.pointed.specs.Spot.{Spot, is_whole}
use Rattle.pointed.specs.Word.{is_plain}

-- a text ends in a blank, or is empty
abbrev pub ends_in_blank : List ℕ → Bool
ends_in_blank [] = true
ends_in_blank (c ∷ []) = is_blank c
ends_in_blank (c ∷ d ∷ ds) = ends_in_blank (d ∷ ds)

-- a text begins with a blank, or is empty
abbrev pub begins_with_blank : List ℕ → Bool
begins_with_blank [] = true
begins_with_blank (c ∷ cs) = is_blank c

-- a word is one of a line: it stands there, has no blank in it, and a blank or an end of the line on both sides; its column is the number of its first
-- byte, counted from 1
pub record IsWordOf (line : List ℕ) (spot : Spot) : Type 0 where
  pub after : List ℕ
  pub is : line ≡ spot.before ++ (spot.word ++ after)
  pub column : spot.column ≡ length spot.before + 1
  pub filled : spot.word ≢ []
  pub no_blank : list_any is_blank spot.word ≡ false
  pub begins : ends_in_blank spot.before ≡ true
  pub ends : begins_with_blank after ≡ true

-- a word is the one of this number among the pieces of a line, counted from 0: so many stand before it
pub record IsPieceOf (line : List ℕ) (number : ℕ) (spot : Spot) : Type 0 where
  pub is_word : IsWordOf line spot
  pub behind : List (List ℕ)
  pub pieces_are : pieces line ≡ pieces spot.before ++ spot.word ∷ behind
  pub count : length (pieces spot.before) ≡ number

-- the pieces between the name of a line's instruction and a word
abbrev pub pieces_before : Spot → List (List ℕ)
pieces_before spot = drop 1 (pieces spot.before)

-- a word is one of the flags of a line's instruction: it and all pieces between it and the instruction's name begin with `--` (Dockerfile reference)
pub record IsFlagOf (line : List ℕ) (spot : Spot) : Type 0 where
  pub number : ℕ
  pub place : IsPieceOf line (number + 1) spot
  pub before : list_all is_flag (pieces_before spot) ≡ true
  pub is : is_flag spot.word ≡ true

-- the flag that a word is
abbrev pub flag_at : Spot → Flag
flag_at spot = flag_of spot.word

-- the flags between the name of a line's instruction and such a word
abbrev pub flags_before : Spot → List Flag
flags_before spot = map flag_of (pieces_before spot)

-- a word is the only flag of a line's instruction: it follows the instruction's name, and is followed by a piece that is no flag, and isn't the beginning
-- of one that goes on in the next line
pub record IsOnlyFlagOf (line : List ℕ) (spot : Spot) : Type 0 where
  pub place : IsPieceOf line 1 spot
  pub is : is_flag spot.word ≡ true
  pub next : List ℕ
  pub more : List (List ℕ)
  pub next_is : place.behind ≡ next ∷ more
  pub no_flag : is_flag next ≡ false
  pub whole : is_whole next ≡ true

-- a word follows AS on a line, and between the name of the instruction and AS stands one piece: in a FROM it is the name of the stage (Dockerfile reference,
-- FROM)
pub record IsAfterAs (line : List ℕ) (spot : Spot) : Type 0 where
  pub place : IsPieceOf line 3 spot
  pub image : List ℕ
  pub second : List ℕ
  pub before : pieces_before spot ≡ image ∷ second ∷ []
  pub is : str_eq_ignore_ascii_case second (codes "as") ≡ true

-- a word is an argument of a line's instruction: no piece from the instruction's name up to it has a quote or what may be the file's escape character, so
-- that the pieces are words
pub record IsArgumentOf (line : List ℕ) (spot : Spot) : Type 0 where
  pub number : ℕ
  pub place : IsPieceOf line (number + 1) spot
  pub before : list_all is_plain (pieces_before spot) ≡ true
  pub is : is_plain spot.word ≡ true
