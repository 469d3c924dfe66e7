-- Which word of a line is wrong, where its code has several causes, and which cause it is (own).
use Rattle.std.specs.Prelude.{◌-◌, ◌==◌, ◌&&◌, ◌||◌, nat_le, ℕ, Bool, true, false, not, List, [], ◌∷◌, Option, Some, None, filter, is_some, length, option_map, take, if◌then◌else◌}
use Rattle.std.specs.List.{find, list_any}
use Rattle.ascii.specs.Blanks.{after_blanks}
use Rattle.ascii.specs.Names.{is_name}
use Rattle.ascii.specs.Pieces.{behind_piece}
use Rattle.plain.specs.declared.refusal.Code.{Code}
use Rattle.plain.specs.declared.refusal.Code.TheVariants.{R06, R08, R09, R10, R15}
use Rattle.lines.specs.declared.escape.Escape.{Escape}
use Rattle.words.specs.Cutting.{ends_open, words}
use Rattle.words.specs.Flag.{behind_flags}
use Rattle.expand.specs.Word.{word}
use Rattle.expand.specs.declared.kind.Kind.TheVariants.{Quoted}
use Rattle.expand.specs.declared.reason.Reason.{Reason}
use Rattle.expand.specs.declared.reason.Reason.TheVariants.{Coded, Required}
use Rattle.instructions.specs.Expanded.{is_list}
use Rattle.sentences.specs.Subject.{subject_of}
use Rattle.sentences.specs.declared.subject.Subject.{Subject}
use Rattle.sentences.specs.declared.subject.Subject.TheVariants.{From, Arg, Env, Label, User, Workdir, StopSignal, Volume, Run, Copy}
use Rattle.sentences.specs.declared.word_cause.WordCause.{WordCause}
use Rattle.sentences.specs.declared.word_cause.WordCause.TheVariants.{Empty, OpenQuote, Substitution, EmptyKey, QuotedName, BadName, BrokenList, Pattern}
use Rattle.meant.specs.Faulty.{faulty_if, last_word}
use Rattle.meant.specs.HeredocFaults.{heredoc_fault}
use Rattle.meant.specs.Mounts.{key_of}
use Rattle.meant.specs.Own.{escape_in, joined, lines_below}
use Rattle.meant.specs.declared.word_faults.FaultyWord.{FaultyWord}
use Rattle.meant.specs.declared.word_faults.Sign.{Sign}
use Rattle.meant.specs.declared.word_faults.Sign.TheVariants.{Variable, VariableKey, Bracket}

-- what follows the name of an instruction, and its flags if it takes any (Dockerfile reference)
abbrev pub rest_of : Subject → List ℕ → List ℕ
rest_of From text = behind_flags (behind_piece text)
rest_of Run text = behind_flags (behind_piece text)
rest_of Copy text = behind_flags (behind_piece text)
rest_of subject text = behind_piece text

-- a text is no word
abbrev pub is_bad_word : Escape → List ℕ → Bool
is_bad_word escape text = not (is_some (word Quoted escape text))

-- R09: the word of an open quote is the last one; if none is open, a substitution of the first one that is none is malformed
abbrev pub quote_fault : Escape → List ℕ → List (List ℕ) → Option FaultyWord
quote_fault escape text words = if ends_open escape text then faulty_if OpenQuote (last_word words) else faulty_if Substitution (find (is_bad_word escape) words)

-- a text has a byte
abbrev pub has_byte : ℕ → List ℕ → Bool
has_byte wanted text = list_any (λ c. c == wanted) text

-- a word has a sign
abbrev pub has_sign : Sign → List ℕ → Bool
has_sign Variable word = has_byte 36 word
has_sign VariableKey word = has_byte 36 (key_of word)
has_sign Bracket word = has_byte 91 word

-- a word that is the only one
abbrev pub only : List (List ℕ) → Option (List ℕ)
only (word ∷ []) = Some word
only words = None

-- the only word that has a sign
abbrev pub only_fault : WordCause → Sign → List (List ℕ) → Option FaultyWord
only_fault cause sign words = faulty_if cause (only (filter (has_sign sign) words))

-- an instruction takes so many words, and no empty one (Dockerfile reference)
abbrev pub takes : Subject → ℕ → Bool
takes Copy count = nat_le 2 count
takes Volume count = nat_le 1 count
takes User count = count == 1
takes Workdir count = count == 1
takes StopSignal count = count == 1
takes subject count = false

-- R06 of as many words as the instruction takes: one that has a variable is empty
abbrev pub empty_fault : Subject → List (List ℕ) → Option FaultyWord
empty_fault subject words = if takes subject (length words) then only_fault Empty Variable words else None

-- a text has a quote
abbrev pub has_quote : List ℕ → Bool
has_quote text = has_byte 34 text || has_byte 39 text

-- what a word gives a value is no name of a variable (Dockerfile reference, ARG and ENV)
abbrev pub has_bad_name : List ℕ → Bool
has_bad_name word = not (is_name (key_of word))

-- what is wrong with such a word
abbrev pub name_cause : List ℕ → WordCause
name_cause word = if has_quote (key_of word) then QuotedName else BadName

-- such a word, if there is one
abbrev pub bad_name_fault : Option (List ℕ) → Option FaultyWord
bad_name_fault found = option_map (λ it. record { cause = name_cause it; word = it }) found

-- R10: the first word of an ARG or an ENV that gives a value to what is no name, and the only label of which the key has a variable
abbrev pub name_fault : Subject → List (List ℕ) → Option FaultyWord
name_fault Arg words = bad_name_fault (find has_bad_name words)
name_fault Env words = bad_name_fault (find has_bad_name words)
name_fault Label words = only_fault EmptyKey VariableKey words
name_fault subject words = None

-- a text begins as a list of texts in JSON does
abbrev pub begins_texts : List ℕ → Bool
begins_texts [] = false
begins_texts (c ∷ []) = false
begins_texts (c ∷ d ∷ cs) = (c == 91) && (d == 34)

-- all words but the last, which is the destination of a COPY
abbrev pub but_last : List (List ℕ) → List (List ℕ)
but_last words = take (length words - 1) words

-- R15: what begins like a list in JSON and is none, else the only source with a `[`
abbrev pub pattern_fault : List ℕ → List (List ℕ) → Option FaultyWord
pattern_fault text words = if begins_texts (after_blanks text) then faulty_if BrokenList (Some (after_blanks text)) else only_fault Pattern Bracket (but_last words)

-- the word by which a text of these words is refused with this code
abbrev pub listed_fault : Escape → Code → Subject → List ℕ → List (List ℕ) → Option FaultyWord
listed_fault escape R06 subject text words = empty_fault subject words
listed_fault escape R09 subject text words = quote_fault escape text words
listed_fault escape R10 subject text words = name_fault subject words
listed_fault escape R15 subject text words = pattern_fault text words
listed_fault escape code subject text words = None

-- the same of a text; the strings of a list in JSON are no words
abbrev pub words_fault : Escape → Code → Subject → List ℕ → Option FaultyWord
words_fault escape code subject text = if is_list text then None else listed_fault escape code subject text (words escape text)

-- the word by which the rest of an instruction of this text, above these lines, is refused with this code
abbrev pub rest_fault : Escape → Code → Subject → List ℕ → List ℕ → List (List ℕ) → Option FaultyWord
rest_fault escape R08 subject text rest below = heredoc_fault subject text rest below
rest_fault escape code subject text rest below = words_fault escape code subject rest

-- the same of an instruction of this text
abbrev pub text_fault : Escape → Code → List ℕ → List (List ℕ) → Option FaultyWord
text_fault escape code text below = rest_fault escape code (subject_of text) text (rest_of (subject_of text) text) below

-- the same of an instruction of these lines, of which the first has this number in the file
abbrev pub line_fault : List (List ℕ) → List (List ℕ) → Code → ℕ → Option FaultyWord
line_fault lines own code number = text_fault (escape_in lines) code (joined (escape_in lines) own) (lines_below lines own number)

-- a code has several causes, and is about a word
abbrev pub tells_word : Code → Bool
tells_word R06 = true
tells_word R08 = true
tells_word R09 = true
tells_word R10 = true
tells_word R15 = true
tells_word code = false

-- the word by which such an instruction is refused for this reason, if the lines tell it
abbrev pub word_fault : List (List ℕ) → List (List ℕ) → Reason → ℕ → Option FaultyWord
word_fault lines own (Coded code) number = if tells_word code then line_fault lines own code number else None
word_fault lines own (Required text) number = None
