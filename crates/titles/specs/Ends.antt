-- Where the text of an instruction ends (Dockerfile reference, `escape`, here-documents; BuildKit, `Location` of frontend/dockerfile/parser).
use Rattle.std.specs.Prelude.{ℕ, ◌+◌, ◌-◌, Option, Some, None, List, [], ◌∷◌, ◌++◌, ◌==◌, drop, take, length, replicate, if◌then◌else◌}
use Rattle.std.specs.Str.Lines.{lines as text_lines}
use Rattle.lines.specs.Escape.{byte_of}
use Rattle.lines.specs.File.{part_of}
use Rattle.lines.specs.declared.escape.Escape.{Escape}
use Rattle.lines.specs.declared.line.Line.{Line}

-- the number of the last of some lines that adds something to its instruction, of which the first one has this number; `last`, if none does. Comments
-- and blank lines add nothing, and a heredoc ends with a line that isn't one
abbrev pub last_kept : Escape → ℕ → ℕ → List (List ℕ) → ℕ
last_kept escape last number [] = last
last_kept escape last number (line ∷ lines) =
    last_kept escape (if length (part_of (byte_of escape) line) == 0 then last else number) (number + 1) lines

-- the lines from this one on that stand before the next instruction, if there is one
abbrev pub own_lines : List (List ℕ) → ℕ → Option ℕ → List (List ℕ)
own_lines lines first None = drop (first - 1) lines
own_lines lines first (Some next) = take (next - first) (drop (first - 1) lines)

-- the last line of an instruction, if the next one begins there: between them stand only comments and blank lines
abbrev pub end_of : List (List ℕ) → Line → Option ℕ → ℕ
end_of lines line next = last_kept line.escape line.number line.number (own_lines lines line.number next)

-- the line on which the first of some instructions begins, if there is one
abbrev pub next_number : List Line → Option ℕ
next_number [] = None
next_number (line ∷ lines) = Some line.number

-- ends by the numbers of lines before this one, with its own; 0 stands where no instruction begins
abbrev pub with_end : List ℕ → ℕ → ℕ → List ℕ
with_end ends line end = (ends ++ replicate (line - length ends) 0) ++ end ∷ []

-- ends with those of instructions
abbrev pub ends_after : List (List ℕ) → List Line → List ℕ → List ℕ
ends_after lines [] ends = ends
ends_after lines (line ∷ more) ends = ends_after lines more (with_end ends line.number (end_of lines line (next_number more)))

-- the last line of each instruction of a text, by the line on which it begins; the logical lines are the text's. A byte order mark at its top stands
-- before the first line and changes no number
abbrev pub ends_of : List ℕ → List Line → List ℕ
ends_of text lines = ends_after (text_lines text) lines []
