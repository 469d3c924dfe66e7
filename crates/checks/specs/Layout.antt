-- How a fault or a failure is shown, with the lines that it is about (own).
use Rattle.std.specs.Prelude.{◌++◌, ◌+◌, ◌-◌, ◌==◌, nat_lt, ℕ, List, [], ◌∷◌, Option, Some, None, codes, length, option_map, slice_get, take, unwrap_or, if◌then◌else◌}
use Rattle.std.specs.Fmt.{decimal}
use Rattle.sentences.specs.Json.{json_line}
use Rattle.sentences.specs.Showing.{Pointer, headed, noted, numbered, placed}
use Rattle.sentences.specs.declared.message.Message.{Message}
use Rattle.checks.specs.Mark.{mark_under}
use Rattle.checks.specs.Visible.{visible}
use Rattle.checks.specs.declared.mark.Marked.{Marked}

-- the number of the line below so many lines of an instruction whose first one has this number; that of the first one if it hasn't so many
abbrev pub number_below : ℕ → ℕ → List (List ℕ) → ℕ
number_below number above own = if nat_lt above (length own) then number + above else number

-- the number of the last line that is shown: that of the word which is marked, and else of the last one of all
abbrev pub last_number : ℕ → List (List ℕ) → Option Marked → ℕ
last_number number own (Some marked) = number_below number marked.above own
last_number number own None = number_below number (length own - 1) own

-- the widest number that is shown, that of the last line; the empty text if none is
abbrev pub widest_number : ℕ → List (List ℕ) → Option Marked → List ℕ
widest_number number own marked = if number == 0 then [] else decimal (last_number number own marked)

-- the line below so many lines of an instruction; the empty one if it hasn't so many
abbrev pub line_below : ℕ → List (List ℕ) → List ℕ
line_below above own = unwrap_or (slice_get own above) []

-- a line after its number, as a terminal may have it
abbrev pub cited_line : List ℕ → ℕ → List ℕ → List ℕ
cited_line widest number line = numbered widest (decimal number) (visible line)

-- lines after their numbers, of which the first has this one
abbrev pub cited : List ℕ → ℕ → List (List ℕ) → List ℕ
cited widest number [] = []
cited widest number (line ∷ lines) = cited_line widest number line ++ cited widest (number + 1) lines

-- the line of the word that is marked, and the mark under it
abbrev pub marked_excerpt : List ℕ → ℕ → List (List ℕ) → Marked → List ℕ
marked_excerpt widest number own marked =
    cited_line widest (number_below number marked.above own) (line_below marked.above own) ++ noted widest (mark_under marked.before marked.word)

-- the lines that are shown: that of the word which is marked, with the mark, and else all of the instruction
abbrev pub excerpt : List ℕ → ℕ → List (List ℕ) → Option Marked → List ℕ
excerpt widest number own (Some marked) = marked_excerpt widest number own marked
excerpt widest number own None = cited widest number own

-- the column of the word that is marked, if it stands on the first line
abbrev pub column_of : Option Marked → Option ℕ
column_of None = None
column_of (Some marked) = if marked.above == 0 then Some (length marked.before + 1) else None

-- what is shown to a person, with numbers as wide as this one: where it is and what is wrong; the lines; and what helps
abbrev pub shown_wide : List ℕ → List ℕ → List ℕ → ℕ → List (List ℕ) → Message → Option Marked → List ℕ
shown_wide widest file name number own message marked = (headed (placed (visible file) number (column_of marked)) name (visible message.wrong)
    ++ excerpt widest number own marked) ++ noted widest (visible message.helps)

-- what is shown to a person of a fault or a failure of the file of this name and of the lines of an instruction, of which the first has this number, with
-- its code or its cause and what is said of it
unfoldable pub shown_plain : List ℕ → List ℕ → ℕ → List (List ℕ) → Message → Option Marked → List ℕ
shown_plain file name number own message marked = shown_wide (widest_number number own marked) file name number own message marked

-- lines, each with a LF at its end
abbrev pub ended : List (List ℕ) → List ℕ
ended [] = []
ended (line ∷ lines) = line ++ (codes "\n" ++ ended lines)

-- lines, each after a LF
abbrev pub begun : List (List ℕ) → List ℕ
begun [] = []
begun (line ∷ lines) = codes "\n" ++ (line ++ begun lines)

-- lines as a text, with a LF between two of them
abbrev pub text_of : List (List ℕ) → List ℕ
text_of [] = []
text_of (line ∷ lines) = line ++ begun lines

-- the number of the first byte of the word that is marked, in the text of the lines, counted from 1
abbrev pub text_column : List (List ℕ) → Marked → ℕ
text_column own marked = (length (ended (take marked.above own)) + length marked.before) + 1

abbrev pub text_pointer : List (List ℕ) → Marked → Pointer
text_pointer own marked = (text_column own marked, marked.word)

-- what a program gets of a fault, by the same parts: its lines are one text
unfoldable pub shown_json : List ℕ → List ℕ → ℕ → List (List ℕ) → Message → Option Marked → List ℕ
shown_json file code number own message marked = json_line file code number message (text_of own) (option_map (text_pointer own) marked)
