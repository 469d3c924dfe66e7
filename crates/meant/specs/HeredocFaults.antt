-- Which heredoc of a line isn't closed, or isn't allowed there (own).
use Rattle.std.specs.Prelude.{◌==◌, ◌&&◌, nat_lt, ℕ, Bool, false, not, List, [], ◌∷◌, Option, Some, None, bytes_eq, codes, drop, filter, is_some, length, nat_eq, if◌then◌else◌}
use Rattle.std.specs.List.{before_first, find, list_any, starts_with}
use Rattle.std.specs.Option.{option_and_then}
use Rattle.ascii.specs.Blanks.{after_blanks}
use Rattle.ascii.specs.Pieces.{pieces}
use Rattle.lines.specs.Marks.{is_mark}
use Rattle.sentences.specs.declared.subject.Subject.{Subject}
use Rattle.sentences.specs.declared.subject.Subject.TheVariants.{Run, Copy}
use Rattle.sentences.specs.declared.word_cause.WordCause.{WordCause}
use Rattle.sentences.specs.declared.word_cause.WordCause.TheVariants.{OpenHeredoc, BesideHeredoc, Interpreter, HeredocFrom, HeredocPlace}
use Rattle.meant.specs.Faulty.{faulty_if, last_word}
use Rattle.meant.specs.Sources.{value_of}
use Rattle.meant.specs.declared.word_faults.FaultyWord.{FaultyWord}

-- a text without what it may begin with
unfoldable pub without : List ℕ → List ℕ → List ℕ
without front text = if starts_with nat_eq text front then drop (length front) text else text

-- a text up to a quote
abbrev pub before_quotes : List ℕ → List ℕ
before_quotes text = before_first (λ c. c == 39) (before_first (λ c. c == 34) text)

-- the name in the mark of a heredoc (Dockerfile reference, here-documents)
abbrev pub mark_name : List ℕ → List ℕ
mark_name mark = before_quotes (without (codes "'") (without (codes "\"") (without (codes "-") (without (codes "<<") mark))))

-- a line may close the heredoc of this mark: it is the name alone, after blanks if the mark is `<<-NAME`
abbrev pub closes : List ℕ → List ℕ → Bool
closes mark line = if list_any (λ c. c == 45) mark then bytes_eq (after_blanks line) (mark_name mark) else bytes_eq line (mark_name mark)

-- none of these lines closes it
abbrev pub is_unclosed : List (List ℕ) → List ℕ → Bool
is_unclosed below mark = not (list_any (closes mark) below)

-- a word is the flag `--from` with a value
abbrev pub has_from : List ℕ → Bool
has_from word = is_some (value_of (codes "--from") word)

-- a text begins with `#!`
abbrev pub names_interpreter : List ℕ → Bool
names_interpreter [] = false
names_interpreter (c ∷ []) = false
names_interpreter (c ∷ d ∷ cs) = (c == 35) && (d == 33)

-- the first of some lines does
abbrev pub begins_interpreter : List (List ℕ) → Bool
begins_interpreter [] = false
begins_interpreter (line ∷ lines) = names_interpreter (after_blanks line)

-- what is wrong with a heredoc of RUN that is closed, among so many pieces
abbrev pub run_cause : ℕ → List (List ℕ) → Option WordCause
run_cause count below = if nat_lt 1 count then Some BesideHeredoc else (if begins_interpreter below then Some Interpreter else None)

-- the first of some marks
abbrev pub first_of : List (List ℕ) → Option (List ℕ)
first_of [] = None
first_of (mark ∷ marks) = Some mark

-- the first of its marks, with what is wrong with it
abbrev pub run_fault : List (List ℕ) → List (List ℕ) → List (List ℕ) → Option FaultyWord
run_fault words marks below = option_and_then (λ cause. faulty_if cause (first_of marks)) (run_cause (length words) below)

-- a piece, if it is a mark
abbrev pub mark_if : List ℕ → Option (List ℕ)
mark_if word = if is_mark word then Some word else None

-- the last piece, if it is one: it is the destination of a COPY
abbrev pub last_mark : List (List ℕ) → Option (List ℕ)
last_mark words = option_and_then mark_if (last_word words)

-- what is wrong with a heredoc of COPY that is closed
abbrev pub copy_fault : List ℕ → List (List ℕ) → List (List ℕ) → Option FaultyWord
copy_fault text words marks = if list_any has_from (pieces text) then faulty_if HeredocFrom (first_of marks) else faulty_if HeredocPlace (last_mark words)

-- the same by the instruction
abbrev pub closed_fault : Subject → List ℕ → List (List ℕ) → List (List ℕ) → List (List ℕ) → Option FaultyWord
closed_fault Run text words marks below = run_fault words marks below
closed_fault Copy text words marks below = copy_fault text words marks
closed_fault subject text words marks below = None

-- a mark that no line closes, if there is one, else what is wrong with one that is closed
abbrev pub open_or_closed : Option (List ℕ) → Option FaultyWord → Option FaultyWord
open_or_closed None closed = closed
open_or_closed (Some mark) closed = faulty_if OpenHeredoc (Some mark)

-- R08: the first mark that no line below closes; else the one that isn't allowed
abbrev pub mark_fault : Subject → List ℕ → List (List ℕ) → List (List ℕ) → List (List ℕ) → Option FaultyWord
mark_fault subject text words marks below = open_or_closed (find (is_unclosed below) marks) (closed_fault subject text words marks below)

-- the same, by what follows the flags of an instruction of this text
abbrev pub heredoc_fault : Subject → List ℕ → List ℕ → List (List ℕ) → Option FaultyWord
heredoc_fault subject text rest below = mark_fault subject text (pieces rest) (filter is_mark (pieces rest)) below
