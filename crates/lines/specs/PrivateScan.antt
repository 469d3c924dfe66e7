-- How far the block in progress was looked at: only private functions are stated by it (own).
use Rattle.std.specs.Prelude.{◌≡◌, ◌≢◌, ◌⊎◌, ◌<◌, ◌≤◌, ℕ, ◌+◌, ◌==◌, ◌&&◌, not, Bool, true, false, List, [], ◌∷◌, ◌++◌, Option, Some, None, Result, Ok, Err, MatchBool, length, slice_get}
use Rattle.std.specs.declared.vec.Vec.{Vec}
use Rattle.plain.specs.declared.fault.Fault.{Fault}
use Rattle.plain.specs.declared.fault.Fault.TheVariants.{Because, Memory}
use Rattle.std.specs.Str.Lines.{lines}
use Rattle.plain.specs.declared.refusal.Refusal.{Refusal}
use Rattle.lines.specs.declared.line.Mark.{Mark}
use Rattle.lines.specs.declared.line.Line.{Line}
use Rattle.lines.specs.declared.state.Seen.{Seen}
use Rattle.lines.specs.declared.state.Pending.{Pending}
use Rattle.lines.specs.declared.state.Unclosed.{Unclosed}
use Rattle.lines.specs.declared.state.Position.{Position}
use Rattle.lines.specs.declared.state.Position.TheVariants.{Top, Between, Within, Bodies}
use Rattle.lines.specs.declared.state.FileState.{FileState}
use Rattle.lines.specs.declared.scan.Place.{Place}
use Rattle.lines.specs.declared.scan.Progress.{Progress}
use Rattle.lines.specs.declared.scan.Stage.{Stage}
use Rattle.lines.specs.declared.scan.Stage.TheVariants.{Fresh, Own, Closing}
use Rattle.lines.specs.declared.scan.Scan.{Scan}
use Rattle.lines.specs.declared.scan.Stop.{Stop}
use Rattle.lines.specs.declared.scan.Stop.TheVariants.{NoMemory, Refused}
use Rattle.ascii.specs.Blanks.{trimmed}
use Rattle.lines.specs.Blanks.{is_blank_line}
use Rattle.lines.specs.Continued.{plain_line}
use Rattle.lines.specs.File.{goes_on}
use Rattle.lines.specs.Marks.{marks_of}
use Rattle.lines.specs.Faults.{IsLeast}
use Rattle.lines.specs.Text.{without_byte_order_mark}

-- where the next line stands between blocks
abbrev pub position_of : Option Seen → Position
position_of (Some seen) = Top seen
position_of None = Between

-- the state at a place between blocks, if only `room` more logical lines may be there
abbrev pub state_at : Place → ℕ → FileState
state_at place room = record { escape = place.escape; count = place.count; position = position_of place.seen; room = room; lines = []; faults = [] }

-- the place after one more line, below which no directive stands
abbrev pub place_after : Place → Place
place_after place = record place { count = place.count + 1; seen = None }

-- a line that is a logical line of this text by itself, without heredocs
abbrev pub IsLone : ℕ → List ℕ → List ℕ → Type 0
IsLone escape line text = (goes_on escape line ≡ false) × (text ≡ trimmed line) × (marks_of text ≡ [])

-- the state after such a line between blocks
abbrev pub after_lone : Place → ℕ → List ℕ → FileState
after_lone place room text = record (state_at (place_after place) room) { lines = plain_line (place.count + 1) place.escape text ∷ [] }

-- the lines of a block's bytes: the first block of a text may have a byte order mark
abbrev pub block_lines : Bool → List ℕ → List (List ℕ)
block_lines true bytes = lines (without_byte_order_mark bytes)
block_lines false bytes = lines bytes

-- what holds of each state that reading reaches: there are no more lines than there may be, if nothing is wrong, and fewer inside the
-- heredocs of one; the heredoc that is read there is that of the mark after those of the closed ones
abbrev pub FitsAt : FileState → Position → Type 0
FitsAt s (Top seen) = Unit {0}
FitsAt s Between = Unit {0}
FitsAt s (Within p) = Unit {0}
FitsAt s (Bodies u) = (slice_get u.marks (length u.heredocs) ≡ Some u.mark) × (s.faults ≡ [] → length s.lines < s.room)

abbrev pub Fits : FileState → Type 0
Fits s = (s.faults ≡ [] → length s.lines ≤ s.room) × FitsAt s s.position

-- inside a logical line of a block none is complete, and in the lines of the instruction itself nothing is wrong
abbrev pub IsInsideAt : FileState → Position → Type 0
IsInsideAt s (Top seen) = Unit {0}
IsInsideAt s Between = Unit {0}
IsInsideAt s (Within p) = (s.lines ≡ []) × (s.faults ≡ [])
IsInsideAt s (Bodies u) = s.lines ≡ []

abbrev pub IsInside : FileState → Type 0
IsInside s = IsInsideAt s s.position

-- a state in the own lines of a logical line, of which it is known whether it is past the limit with what it joins to so far
abbrev pub IsOwn : Progress → FileState → Type 0
IsOwn progress s = (s.escape ≡ progress.escape) × (s.room ≡ progress.room) × (s.lines ≡ []) × (s.faults ≡ [])
    × ((p : Pending) × (s.position ≡ Within p) × (progress.is_past ≡ ((progress.room == 0) && not (is_blank_line p.text))))

-- a state in the heredoc of the mark of this index
abbrev pub IsClosing : List Mark → Progress → ℕ → FileState → Type 0
IsClosing marks progress n s = (s.lines ≡ []) × MatchBool progress.is_past (s.faults ≢ []) (s.faults ≡ [])
    × ((u : Unclosed) × (s.position ≡ Bodies u) × (u.marks ≡ marks) × (length u.heredocs ≡ n) × (slice_get marks n ≡ Some u.mark))

-- the state after the complete lines of a block that isn't complete
abbrev pub IsInStage : List Mark → Progress → Stage → FileState → Type 0
IsInStage marks progress Fresh s = progress.is_past ≡ false
IsInStage marks progress Own s = IsOwn progress s
IsInStage marks progress (Closing n) s = IsClosing marks progress n s

abbrev pub StageIs : List Mark → Progress → FileState → Type 0
StageIs marks progress s = IsInStage marks progress progress.stage s

-- a stage before any line of a block, or after some
abbrev pub IsBehind : Stage → List ℕ → Type 0
IsBehind Fresh own = own ≡ []
IsBehind Own own = own ≢ []
IsBehind (Closing n) own = own ≢ []

-- the marks that count: those that were read, or else those that were there
abbrev pub marks_in : Option (List Mark) → List Mark → List Mark
marks_in (Some marks) kept = marks
marks_in None kept = kept

-- the state below these lines
abbrev pub below : List Line → FileState → FileState
below found s = record s { room = s.room + length found; lines = found ++ s.lines }

-- how far the same block was looked at some lines later
abbrev pub IsLater : Progress → Progress → Type 0
IsLater progress next = (next.place ≡ progress.place) × (next.is_first ≡ progress.is_first) × (next.room ≡ progress.room) × (next.stage ≢ Fresh)

-- a block that is complete gave these lines, and ends at this place
abbrev pub IsMovedTo : Scan → Place → ℕ → List Line → ℕ → Scan → Type 0
IsMovedTo scan place room found size next = (next.progress.place ≡ place) × (next.start ≡ scan.start + size) × (next.progress.is_first ≡ false)
    × (next.progress.stage ≡ Fresh) × (next.progress.is_past ≡ false) × (next.progress.room + length found ≡ room) × (next.lines ≡ scan.lines ++ found)

-- a block was completed by these bytes: what it gave stands after what was given above
abbrev pub HasMoved : Scan → FileState → ℕ → Scan → Type 0
HasMoved scan state size next = (next.progress.stage ≡ Fresh) × (next.progress.is_past ≡ false) × (next.start ≡ scan.start + size) × (next.progress.is_first ≡ false)
    × (below next.lines (state_at next.progress.place next.progress.room) ≡ below scan.lines state)

-- the block goes on
abbrev pub HasStayed : List Mark → Scan → FileState → Scan → Type 0
HasStayed kept scan state next = IsLater scan.progress next.progress × (next.start ≡ scan.start) × (next.lines ≡ scan.lines)
    × StageIs (marks_in next.marks kept) next.progress state

abbrev pub Settles : List Mark → Scan → FileState → ℕ → Scan → Type 0
Settles kept scan state size next = HasMoved scan state size next ⊎ HasStayed kept scan state next

-- between blocks
abbrev pub IsAtRest : Position → Type 0
IsAtRest (Top seen) = Unit {0}
IsAtRest Between = Unit {0}
IsAtRest (Within p) = ⊥
IsAtRest (Bodies u) = ⊥

-- by these faults reading stops so
abbrev pub StopsBy : List Refusal → Stop → Type 0
StopsBy faults NoMemory = Unit {0}
StopsBy faults (Refused f) = IsLeast faults f

-- a block is refused by the least of what is wrong with it, once it is complete
abbrev pub Stops : FileState → Stop → Type 0
Stops state NoMemory = Unit {0}
Stops state (Refused f) = IsLeast state.faults f × IsAtRest state.position

-- what a text answers whose last block gives this state at the end of the text, below these lines
abbrev pub AnswersLast : {A : Type 0} → List Line → FileState → Result (Vec Line A) (Fault Refusal) → Type 0
AnswersLast lines state (Ok found) = (state.faults ≡ []) × (found.items ≡ lines ++ state.lines)
AnswersLast lines state (Err (Because f)) = IsLeast state.faults f
AnswersLast lines state (Err Memory) = Unit {0}
