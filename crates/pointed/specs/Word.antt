-- Which word that is no flag a fault is about (own).
use Rattle.std.specs.Prelude.{◌==◌, ◌&&◌, ◌||◌, not, ℕ, Bool, List, [], ◌∷◌, Option, Some, None, is_some, codes, if◌then◌else◌}
use Rattle.std.specs.List.{list_any, take_while}
use Rattle.std.specs.Option.{option_or}
use Rattle.std.specs.Str.{str_eq_ignore_ascii_case}
use Rattle.plain.specs.declared.refusal.Code.{Code}
use Rattle.plain.specs.declared.refusal.Code.TheVariants.{R10, R11, R12, R16}
use Rattle.ascii.specs.Names.{is_name}
use Rattle.instructions.specs.Arg.{argument_cut}
use Rattle.imageconfig.specs.Ports.{port_key}
use Rattle.sentences.specs.declared.subject.Subject.{Subject}
use Rattle.sentences.specs.declared.subject.Subject.TheVariants.{From, Arg, Env, Expose}
use Rattle.pointed.specs.First.{first_that}
use Rattle.pointed.specs.Spot.{may_escape}

-- a character by which a word may hold a blank, or go on in the next line: a quote, or what may be the file's escape character
abbrev pub may_join : ℕ → Bool
may_join c = may_escape c || ((c == 34) || (c == 39))

-- a piece is a word as it stands
abbrev pub is_plain : List ℕ → Bool
is_plain piece = not (list_any may_join piece)

-- the pieces up to the first one that may be a part of a word: these are words, whatever the escape character is
abbrev pub plain_words : List (List ℕ) → List (List ℕ)
plain_words pieces = take_while is_plain pieces

-- the name that a word of ARG or ENV gives a value is none: it is what stands before the first `=` (Dockerfile reference)
abbrev pub has_bad_name : List ℕ → Bool
has_bad_name word = not (is_name (argument_cut word).0)

-- a word has a `$`, so that its value may be another text
abbrev pub has_dollar : List ℕ → Bool
has_dollar word = list_any (λ c. c == 36) word

-- a word is no port, whatever values variables have
abbrev pub is_no_port : List ℕ → Bool
is_no_port word = not (has_dollar word) && not (is_some (port_key word))

-- a word isn't what an instruction wants there: of EXPOSE no port, and else no name with its value
abbrev pub is_wrong : Subject → List ℕ → Bool
is_wrong Expose word = is_no_port word
is_wrong subject word = has_bad_name word

-- the number of the first such word
abbrev pub first_wrong : Subject → List (List ℕ) → Option ℕ
first_wrong subject words = first_that (λ begun word. is_wrong subject word) words

-- the number of the first word, if there is one
abbrev pub first_of : List (List ℕ) → Option ℕ
first_of [] = None
first_of (word ∷ words) = Some 0

-- the number of the word after a second word that is AS
abbrev pub after_as : List ℕ → Option ℕ
after_as second = if str_eq_ignore_ascii_case second (codes "as") then Some 2 else None

-- the number of a stage's name: that of the word after AS, which is the second one (Dockerfile reference, FROM)
abbrev pub stage_name : List (List ℕ) → Option ℕ
stage_name [] = None
stage_name (image ∷ []) = None
stage_name (image ∷ second ∷ []) = None
stage_name (image ∷ second ∷ name ∷ more) = after_as second

-- the number of a name that is none, of a stage or of a variable
abbrev pub bad_name : Subject → List (List ℕ) → Option ℕ
bad_name From words = stage_name words
bad_name Arg words = first_wrong Arg words
bad_name Env words = first_wrong Env words
bad_name subject words = None

-- the number of a piece that is the only one
abbrev pub only_piece : List (List ℕ) → Option ℕ
only_piece [] = None
only_piece (piece ∷ []) = Some 0
only_piece (piece ∷ second ∷ more) = None

-- the number of what is no port: a word that is none whatever values variables have; if there is no such word, the only one
abbrev pub bad_port : List (List ℕ) → Option ℕ
bad_port pieces = option_or (first_wrong Expose (plain_words pieces)) (only_piece pieces)

-- the number of the word that a code is about, of the pieces after the name of a line's instruction: R10 and R11 for a name, R12 for the image of a FROM,
-- and R16 for a port
unfoldable pub word_number : Code → Subject → List (List ℕ) → Option ℕ
word_number R10 subject pieces = bad_name subject (plain_words pieces)
word_number R11 subject pieces = stage_name (plain_words pieces)
word_number R12 subject pieces = first_of (plain_words pieces)
word_number R16 subject pieces = bad_port pieces
word_number code subject pieces = None
