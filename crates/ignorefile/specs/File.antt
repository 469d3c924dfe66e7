-- What the bytes of an ignore file say (.dockerignore rules; own where a bad line is refused). Of the bytes below, 33 is `!` and 35 is `#`.
use Rattle.std.specs.Prelude.{◌≡◌, ◌==◌, ◌+◌, ℕ, Bool, true, false, Option, Some, None, Result, Ok, Err, List, [], ◌∷◌, ◌++◌, if◌then◌else◌, take, drop, bytes_eq, codes, option_and_then, option_map}
use Rattle.std.specs.Str.{chars, is_utf8}
use Rattle.std.specs.Str.Lines.{lines}
use Rattle.plain.specs.declared.fault.Fault.{Fault}
use Rattle.plain.specs.declared.fault.Fault.TheVariants.{Because, Memory}
use Rattle.ascii.specs.Blanks.{after_blanks, trimmed}
use Rattle.globs.specs.Glob.{components_of}
use Rattle.globs.specs.Reading.{parts_of}
use Rattle.ignorefile.specs.declared.fault.BadLine.{BadLine}
use Rattle.ignorefile.specs.declared.line.Segment.{Segment}
use Rattle.ignorefile.specs.declared.line.Segment.TheVariants.{Deep, Named}
use Rattle.ignorefile.specs.declared.line.Line.{Line}

-- bytes without a leading byte order mark
abbrev pub without_byte_order_mark : List ℕ → List ℕ
without_byte_order_mark bytes = if bytes_eq (take 3 bytes) (239 ∷ 187 ∷ 191 ∷ []) then drop 3 bytes else bytes

-- the segment that a component spells: one that is just `**` takes any names, and inside of a longer one `**` is two `*` (own); none
-- where it is malformed
abbrev pub segment_of : List ℕ → Option Segment
segment_of component = if bytes_eq component (codes "**") then Some Deep else option_map (λ parts. Named parts) (parts_of (chars component))

-- those of all components, or none where one is malformed
abbrev pub segments_of : List (List ℕ) → Option (List Segment)
segments_of [] = Some []
segments_of (component ∷ more) =
    option_and_then (λ segment. option_map (λ others. segment ∷ others) (segments_of more)) (segment_of component)

-- a line of these segments; one without segments says nothing
abbrev pub line_with : Bool → List Segment → Option Line
line_with exception [] = None
line_with exception (segment ∷ segments) = Some (record { exception = exception; segments = segment ∷ segments })

-- What a pattern's text says: a line or nothing; none where the pattern is malformed.
abbrev pub pattern_of : Bool → List ℕ → Option (Option Line)
pattern_of exception text = option_map (λ segments. line_with exception segments) (segments_of (components_of text))

-- what stands behind a `!` and blanks: a pattern, but not nothing
abbrev pub exception_of : List ℕ → Option (Option Line)
exception_of [] = None
exception_of (b ∷ bs) = pattern_of true (b ∷ bs)

-- a line without the blanks at its ends: it may be empty, and a `!` at its begin makes an exception
abbrev pub body_of : List ℕ → Option (Option Line)
body_of [] = Some None
body_of (b ∷ bs) = if b == 33 then exception_of (after_blanks bs) else pattern_of false (b ∷ bs)

-- a text that begins with `#`: blanks before it aren't dropped first
abbrev pub is_comment : List ℕ → Bool
is_comment [] = false
is_comment (b ∷ bs) = b == 35

-- What a line's bytes say: a line or nothing; none where they are bad, as they aren't UTF-8, also in a comment, their pattern is malformed
-- or they are a `!` alone.
abbrev pub line_of : List ℕ → Option (Option Line)
line_of bytes = if is_utf8 bytes then (if is_comment bytes then Some None else body_of (trimmed bytes)) else None

-- a line before others, if there is one
abbrev pub before : Option Line → List Line → List Line
before None lines = lines
before (Some line) lines = line ∷ lines

-- what a line and those after it say: the first bad line decides
abbrev pub all_say : ℕ → Option (Option Line) → Result (List Line) ℕ → Result (List Line) ℕ
all_say number None more = Err number
all_say number (Some said) (Ok lines) = Ok (before said lines)
all_say number (Some said) (Err bad) = Err bad

-- what texts' lines say, the first of which has this number
abbrev pub lines_from : ℕ → List (List ℕ) → Result (List Line) ℕ
lines_from number [] = Ok []
lines_from number (bytes ∷ more) = all_say number (line_of bytes) (lines_from (number + 1) more)

-- The lines of an ignore file, or the number of its first bad line, counted from 1. Lines end by LF, a CR just before that LF is
-- dropped, and an empty part after the last LF is none.
abbrev pub ignore_of : List ℕ → Result (List Line) ℕ
ignore_of bytes = lines_from 1 (lines (without_byte_order_mark bytes))

-- a line has a pattern, be it an exception or not
abbrev pub is_line : Option (Option Line) → Bool
is_line None = false
is_line (Some None) = false
is_line (Some (Some line)) = true

-- the numbers of those of texts' lines that have a pattern, where the first line has this number
abbrev pub numbers_from : ℕ → List (List ℕ) → List ℕ
numbers_from number [] = []
numbers_from number (bytes ∷ more) = (if is_line (line_of bytes) then number ∷ [] else []) ++ numbers_from (number + 1) more

-- where the lines of an ignore file stand in it: their numbers, counted from 1
abbrev pub numbers_of : List ℕ → List ℕ
numbers_of bytes = numbers_from 1 (lines (without_byte_order_mark bytes))

-- what a reading answers: the lines, or the first bad one, or that there was no memory, which says nothing of the file
abbrev pub IsIgnoreRead : Result (List Line) ℕ → Result (List Line) (Fault BadLine) → Type 0
IsIgnoreRead said (Ok found) = said ≡ Ok found
IsIgnoreRead said (Err (Because bad)) = said ≡ Err bad.number
IsIgnoreRead said (Err Memory) = Unit {0}
