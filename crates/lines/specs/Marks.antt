-- The marks of heredocs in a logical line, as `<<-"EOF"` (own, but where a definition names its source).
use Rattle.std.specs.Prelude.{ℕ, ◌-◌, Bool, true, false, List, [], ◌∷◌, ◌==◌, ◌||◌, ◌&&◌, nat_le, if◌then◌else◌, Option, Some, None, is_some, length, take}
use Rattle.std.specs.Prelude.{drop, filter_map, bytes_eq, codes}
use Rattle.std.specs.Str.{str_eq_ignore_ascii_case}
use Rattle.ascii.specs.Names.{is_name}
use Rattle.ascii.specs.Pieces.{pieces}
use Rattle.lines.specs.Blanks.{after_tabs, starts_with, ends_with}
use Rattle.lines.specs.declared.line.Mark.{Mark}

-- whether a text stands in a pair of these quotes
abbrev pub is_quoted_by : ℕ → List ℕ → Bool
is_quoted_by quote text = (nat_le 2 (length text) && starts_with quote text) && ends_with quote text

-- the mark of a name: a letter or `_` followed by letters, digits or `_` (own)
abbrev pub named : Bool → Bool → List ℕ → Option Mark
named strips quoted name = if is_name name then Some (record { name = name; quoted = quoted; strips = strips }) else None

-- the mark of what stands after `<<` or `<<-`: a name, bare or in a pair of single or double quotes (Dockerfile reference,
-- here-documents)
abbrev pub mark_from : Bool → List ℕ → Option Mark
mark_from strips text = if is_quoted_by 34 text || is_quoted_by 39 text then named strips true (take (length text - 2) (drop 1 text)) else named strips false text

-- the mark of what stands after `<<`: with a `-` there leading tabs are dropped (Dockerfile reference, here-documents)
abbrev pub mark_dashed : List ℕ → Option Mark
mark_dashed rest = if starts_with 45 rest then mark_from true (drop 1 rest) else mark_from false rest

-- what stands after the `<<` with which a text begins (Dockerfile reference, here-documents)
abbrev pub after_two : List ℕ → Option (List ℕ)
after_two [] = None
after_two (character ∷ []) = None
after_two (character ∷ next ∷ rest) = if (character == 60) && (next == 60) then Some rest else None

-- the mark of what stands after the `<<` with which a piece begins, if it begins so
abbrev pub mark_after : Option (List ℕ) → Option Mark
mark_after None = None
mark_after (Some rest) = mark_dashed rest

-- the mark that a piece is: the whole piece is `<<NAME` or `<<-NAME` (Dockerfile reference, here-documents; that
-- no quotes around a whole mark are known: own)
abbrev pub mark_of : List ℕ → Option Mark
mark_of piece = mark_after (after_two piece)

-- whether a word is the mark of a heredoc
unfoldable pub is_mark : List ℕ → Bool
is_mark word = is_some (mark_of word)

-- a flag begins with `--` (Dockerfile reference, as `RUN --mount`; that `--` alone is one: own)
abbrev pub is_flag : List ℕ → Bool
is_flag [] = false
is_flag (character ∷ []) = false
is_flag (character ∷ next ∷ rest) = (character == 45) && (next == 45)

-- the pieces after the leading flags
abbrev pub after_flags : List (List ℕ) → List (List ℕ)
after_flags [] = []
after_flags (piece ∷ more) = if is_flag piece then after_flags more else piece ∷ more

-- the marks among the pieces after the flags: none where they begin with `[`, as a list in JSON does (own)
abbrev pub marks_among : List (List ℕ) → List Mark
marks_among [] = []
marks_among (piece ∷ more) = if starts_with 91 piece then [] else filter_map mark_of (piece ∷ more)

-- RUN and COPY alone have heredocs, in any case of letters (Dockerfile reference, here-documents, which has ADD too)
abbrev pub has_heredocs : List ℕ → Bool
has_heredocs name = str_eq_ignore_ascii_case name (codes "run") || str_eq_ignore_ascii_case name (codes "copy")

-- the marks among the pieces of an instruction, of which the first is its name
abbrev pub marks_in : List (List ℕ) → List Mark
marks_in [] = []
marks_in (name ∷ rest) = if has_heredocs name then marks_among (after_flags rest) else []

-- the marks of a logical line's heredocs, in order
abbrev pub marks_of : List ℕ → List Mark
marks_of text = marks_in (pieces text)

-- what a line is to a heredoc of this mark: `<<-` drops its leading tabs (Dockerfile reference, here-documents)
abbrev pub body_line : Mark → List ℕ → List ℕ
body_line mark line = if mark.strips then after_tabs line else line

-- whether a line closes the heredoc of this mark (Dockerfile reference, here-documents)
abbrev pub closes : Mark → List ℕ → Bool
closes mark line = bytes_eq (body_line mark line) mark.name
