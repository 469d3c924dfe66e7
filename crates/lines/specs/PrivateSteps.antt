-- What reading a file line by line makes of its state, one line after the other: only private functions are stated by it (own, but
-- where a definition names its source). `File` says what a file is with no order of reading, and that reading it line by line gives
-- that is proved in proofs/FileLaws.antt.
use Rattle.std.specs.Prelude.{ℕ, ◌+◌, Bool, true, false, List, [], ◌∷◌, ◌++◌, ◌==◌, if◌then◌else◌, length, slice_get, Option, Some, None}
use Rattle.plain.specs.declared.refusal.Code.{Code}
use Rattle.plain.specs.declared.refusal.Code.TheVariants.{R02, R03, R08, R18}
use Rattle.ascii.specs.Blanks.{trimmed}
use Rattle.lines.specs.Blanks.{continued_part, is_skipped}
use Rattle.lines.specs.Escape.{byte_of}
use Rattle.lines.specs.Marks.{marks_of, closes, body_line}
use Rattle.lines.specs.declared.escape.Escape.TheVariants.{Backslash}
use Rattle.lines.specs.declared.line.Mark.{Mark}
use Rattle.lines.specs.declared.line.Heredoc.{Heredoc}
use Rattle.lines.specs.declared.directives.Directive.{Directive}
use Rattle.lines.specs.declared.directives.Directive.TheVariants.{Escape, Syntax, Check}
use Rattle.lines.specs.declared.state.Seen.{Seen}
use Rattle.lines.specs.declared.state.Unclosed.{Unclosed}
use Rattle.lines.specs.declared.state.Position.{Position}
use Rattle.lines.specs.declared.state.Position.TheVariants.{Top, Between, Within, Bodies}
use Rattle.lines.specs.declared.state.FileState.{FileState}
use Rattle.plain.specs.Limits.{most_lines}
use Rattle.lines.specs.Directives.{directive_of}
use Rattle.lines.specs.declared.state.Pending.{Pending}

-- before the first line: the escape character is a backslash (Dockerfile reference, `escape`)
abbrev pub initial_state : FileState
initial_state = record { escape = Backslash; count = 0; position = Top (record { escape = false; syntax = false; check = false }); room = most_lines; lines = []; faults = [] }

-- the same with the next line at another position
abbrev pub at_position : FileState → Position → FileState
at_position state position = record state { position = position }

-- the line is counted; the position is taken out before it is looked at
abbrev pub count_line : FileState → FileState
count_line state = record state { count = state.count + 1; position = Between }

-- one more thing that is wrong, at a line
abbrev pub with_fault : FileState → Code → ℕ → FileState
with_fault state code number = record state { faults = state.faults ++ (record { code = code; line = number }) ∷ [] }

-- whether the directive's key was there before
abbrev pub is_repeated : Seen → Directive → Bool
is_repeated seen (Escape value) = seen.escape
is_repeated seen Syntax = seen.syntax
is_repeated seen Check = seen.check

-- the keys that were there, with the directive's
abbrev pub with_seen : Seen → Directive → Seen
with_seen seen (Escape value) = record seen { escape = true }
with_seen seen Syntax = record seen { syntax = true }
with_seen seen Check = record seen { check = true }

-- `escape` sets the escape character, and a value that names none is refused (Dockerfile reference, `escape`)
abbrev pub take_value : FileState → Directive → FileState
take_value state (Escape (Some value)) = record state { escape = value }
take_value state (Escape None) = with_fault state R03 state.count
take_value state Syntax = state
take_value state Check = state

-- a directive whose key was there before is refused (Dockerfile reference, parser directives)
abbrev pub refuse_repeated : FileState → Seen → Directive → FileState
refuse_repeated state seen directive = if is_repeated seen directive then with_fault state R02 state.count else state

-- a directive stands on the line just counted
abbrev pub read_directive : FileState → Seen → Directive → FileState
read_directive state seen directive = at_position (take_value (refuse_repeated state seen directive) directive) (Top (with_seen seen directive))

-- a logical line after 4,096 others is refused, the first such one (own)
abbrev pub refuse_past_limit : FileState → ℕ → FileState
refuse_past_limit state number = if length state.lines == state.room then with_fault state R18 number else state

-- a logical line is complete
abbrev pub complete_line : FileState → ℕ → List ℕ → List Heredoc → FileState
complete_line state number text heredocs = record state { position = Between; lines = state.lines ++ (record { number = number; text = text; heredocs = heredocs; escape = state.escape }) ∷ [] }

-- a logical line's text is complete, and its heredocs' bodies follow, if it has marks (Dockerfile reference, here-documents)
abbrev pub open_heredocs : FileState → ℕ → List ℕ → List Mark → FileState
open_heredocs state number text [] = complete_line state number text []
open_heredocs state number text (mark ∷ marks) = at_position state (Bodies (record { number = number; text = text; marks = mark ∷ marks; heredocs = []; mark = mark; body = [] }))

-- the lines of a logical line have ended; where they join to an empty text there is none (own)
abbrev pub close_line : FileState → ℕ → List ℕ → FileState
close_line state number [] = at_position state Between
close_line state number (c ∷ cs) = open_heredocs (refuse_past_limit state number) number (c ∷ cs) (marks_of (c ∷ cs))

-- a line of a logical line, of which the part before the escape character is added where it continues, and the whole line where it
-- doesn't; then leading and trailing blanks of what was joined are dropped (own)
abbrev pub join_part : FileState → ℕ → List ℕ → List ℕ → Option (List ℕ) → FileState
join_part state number before line None = close_line state number (trimmed (before ++ line))
join_part state number before line (Some part) = at_position state (Within (record { number = number; text = before ++ part }))

-- a line is added to what the lines before it in its logical line have joined to (Dockerfile reference, `escape`)
abbrev pub join_line : FileState → ℕ → List ℕ → List ℕ → FileState
join_line state number before line = join_part state number before line (continued_part (byte_of state.escape) line)

-- the heredoc of the next mark is read, if there is one
abbrev pub next_heredoc : FileState → Unclosed → List Heredoc → Option Mark → FileState
next_heredoc state unclosed heredocs None = complete_line state unclosed.number unclosed.text heredocs
next_heredoc state unclosed heredocs (Some mark) = at_position state (Bodies (record unclosed { heredocs = heredocs; mark = mark; body = [] }))

-- the heredoc that was read is closed
abbrev pub close_heredoc : FileState → Unclosed → FileState
close_heredoc state unclosed = next_heredoc state unclosed (unclosed.heredocs ++ (record { mark = unclosed.mark; body = unclosed.body }) ∷ []) (slice_get unclosed.marks (length unclosed.heredocs + 1))

-- a heredoc's body has one more line, with its LF
abbrev pub grow_body : FileState → Unclosed → List ℕ → FileState
grow_body state unclosed line = at_position state (Bodies (record unclosed { body = unclosed.body ++ (line ++ 10 ∷ []) }))

-- the end of the text ends a continuation (as in BuildKit's parser)
abbrev pub end_continuation : FileState → Position → FileState
end_continuation state (Within pending) = close_line state pending.number (trimmed pending.text)
end_continuation state (Top seen) = state
end_continuation state Between = state
end_continuation state (Bodies unclosed) = state

-- a heredoc that the end of the text leaves unclosed is refused, at its instruction's line (own; BuildKit refuses it too)
abbrev pub refuse_unclosed : FileState → Position → FileState
refuse_unclosed state (Bodies unclosed) = with_fault state R08 unclosed.number
refuse_unclosed state (Top seen) = state
refuse_unclosed state Between = state
refuse_unclosed state (Within pending) = state

-- what a text's lines have given at its end
abbrev pub end_file : FileState → FileState
end_file state = refuse_unclosed (end_continuation state state.position) (end_continuation state state.position).position

-- one more line between logical lines: a comment or a blank one is dropped, any other begins a logical line
abbrev pub read_between : FileState → List ℕ → FileState
read_between state line = if is_skipped line then at_position state Between else join_line state state.count [] line

-- one more line at the top, with the directive that it is, if it is one; any other line ends the directives
abbrev pub read_at_top_as : FileState → Seen → List ℕ → Option Directive → FileState
read_at_top_as state seen line None = read_between state line
read_at_top_as state seen line (Some directive) = read_directive state seen directive

-- one more line at the top
abbrev pub read_at_top : FileState → Seen → List ℕ → FileState
read_at_top state seen line = read_at_top_as state seen line (directive_of line)

-- one more line inside a logical line that is continued: a comment or a blank one is dropped, any other is added
abbrev pub read_within : FileState → Pending → List ℕ → FileState
read_within state pending line = if is_skipped line then at_position state (Within pending) else join_line state pending.number pending.text line

-- one more line in the heredocs of a logical line: it closes the one that is read, or is one more line of its body
abbrev pub read_body_line : FileState → Unclosed → List ℕ → FileState
read_body_line state unclosed line = if closes unclosed.mark line then close_heredoc state unclosed else grow_body state unclosed (body_line unclosed.mark line)

-- one more line, by its position
abbrev pub read_at : FileState → Position → List ℕ → FileState
read_at state (Top seen) line = read_at_top state seen line
read_at state Between line = read_between state line
read_at state (Within pending) line = read_within state pending line
read_at state (Bodies unclosed) line = read_body_line state unclosed line

-- one more line of the file
unfoldable pub read_line : FileState → List ℕ → FileState
read_line state line = read_at (count_line state) state.position line

-- all lines of a text, from the first on
abbrev pub after_lines : FileState → List (List ℕ) → FileState
after_lines state [] = state
after_lines state (line ∷ lines) = after_lines (read_line state line) lines
