-- How far a text was read: only private functions are stated by it (own).
use Rattle.std.specs.Prelude.{◌≡◌, ◌≢◌, ◌⊎◌, ◌<◌, ◌≤◌, ℕ, ◌+◌, ◌-◌, Bool, true, false, List, [], ◌++◌, Option, Some, None, MatchBool, length, take, drop, slice_index}
use Rattle.plain.specs.Limits.{most_lines}
use Rattle.lines.specs.declared.escape.Escape.TheVariants.{Backslash}
use Rattle.lines.specs.declared.scan.Stage.TheVariants.{Fresh}
use Rattle.std.specs.Str.{IsValidUpTo}
use Rattle.std.specs.Str.Lossy.{utf8_error_len}
use Rattle.lines.specs.Faults.{IsLeast}
use Rattle.lines.specs.declared.scan.Stop.{Stop}
use Rattle.lines.specs.declared.scan.Stop.TheVariants.{NoMemory, Refused}
use Rattle.lines.specs.declared.line.Mark.{Mark}
use Rattle.lines.specs.declared.line.Line.{Line}
use Rattle.lines.specs.declared.scan.Progress.{Progress}
use Rattle.lines.specs.PrivateScan.{state_at, block_lines, StageIs, IsBehind, IsAtRest, below, marks_in}
use Rattle.lines.specs.PrivateSteps.{after_lines}
use Rattle.lines.specs.Ready.{IsWhole, HasNoLf}
use Rattle.lines.specs.declared.scan.Scan.{Scan}
use Rattle.lines.specs.declared.state.FileState.{FileState}

-- before the first line of a text
abbrev pub first_progress : Progress
first_progress = record { place = record { escape = Backslash; count = 0; seen = Some (record { escape = false; syntax = false; check = false }) }; is_first = true; room = most_lines; stage = Fresh; escape = Backslash; is_past = false }

-- whether a block is the first one of a text is known by the bytes above it
abbrev pub IsFirst : Bool → List ℕ → Bool → Type 0
IsFirst begins front first = MatchBool first ((begins ≡ true) × (front ≡ [])) ((begins ≡ false) ⊎ (front ≢ []))

-- from a state on, at which a block begins (the first one of its text or not), `front` are the bytes of the blocks that are complete,
-- which gave these lines and nothing wrong, and `own` those of the complete lines after them, whose block isn't complete
pub record IsReadFrom (from : FileState) (begins : Bool) (found : List Line) (progress : Progress) (marks : List Mark) (front own : List ℕ) : Type 0 where
  pub above : IsWhole front
  pub whole : IsWhole own
  pub behind : IsBehind progress.stage own
  pub first : IsFirst begins front progress.is_first
  pub state : below found (state_at progress.place progress.room) ≡ after_lines from (block_lines begins front)
  pub reached : StageIs marks progress (after_lines (state_at progress.place progress.room) (block_lines progress.is_first own))

-- where the next LF of these bytes stands from an offset on, if there is one
abbrev pub IsNextLf : List ℕ → ℕ → Option ℕ → Type 0
IsNextLf bytes from None = HasNoLf (drop from bytes)
IsNextLf bytes from (Some end) = (from ≤ end) × (end < length bytes) × (slice_index bytes end ≡ 10) × HasNoLf (take (end - from) (drop from bytes))

-- the scan has taken the complete lines of these bytes up to `at`, and no LF stands from there up to `end`
pub record IsAt (from : FileState) (begins : Bool) (kept : List Mark) (scan : Scan) (bytes : List ℕ) (at end : ℕ) : Type 0 where
  pub front : List ℕ
  pub own : List ℕ
  pub line : List ℕ
  pub rest : List ℕ
  pub cut : bytes ≡ front ++ (own ++ (line ++ rest))
  pub start : length front ≡ scan.start
  pub taken : length front + length own ≡ at
  pub looked : at + length line ≡ end
  pub plain : HasNoLf line
  pub read : IsReadFrom from begins scan.lines scan.progress (marks_in scan.marks kept) front own

-- the bytes after the last whole character: none, or a character that is only begun
abbrev pub IsTail : List ℕ → Type 0
IsTail tail = (tail ≡ []) ⊎ (IsValidUpTo tail 0 × (utf8_error_len tail ≡ None))

-- reading from a state on stops so: whole blocks at the front of these bytes are refused by what is wrong with them
abbrev pub StopsAt : FileState → Bool → List ℕ → Stop → Type 0
StopsAt from begins bytes NoMemory = Unit {0}
StopsAt from begins bytes (Refused f) = (front : List ℕ) × (rest : List ℕ) × (bytes ≡ front ++ rest) × IsWhole front × (front ≢ [])
    × IsLeast (after_lines from (block_lines begins front)).faults f × IsAtRest (after_lines from (block_lines begins front)).position
