-- What the calls that tell of one path are handed: an ignore file with the numbers and the texts of its lines, and which of them decides.
use Rattle.std.specs.Prelude.{◌≡◌, ◌-◌, ◌<◌, ℕ, Bool, Option, Some, Ok, List, map, length, get_or, slice_get}
use Rattle.std.specs.Borrow.{Bor}
use Rattle.std.specs.Str.Lines.{lines}
use Rattle.ignorefile.specs.declared.line.Line.{Line}
use Rattle.ignorefile.specs.File.{ignore_of, numbers_of, without_byte_order_mark}
use Rattle.ignorefile.specs.Kept.{IsDeciding}
use Rattle.bundle.specs.declared.whole.IgnoreFile.{IgnoreFile}
use Rattle.reasons.specs.Reasons.{StandsAt, TellsLine}

-- an ignore file that was read, with the numbers of its lines that have a pattern, and the texts of all its lines
pub record IsCut (file : IgnoreFile) (numbers : List ℕ) (texts : List (Bor (List ℕ))) : Type 0 where
  pub read : ignore_of file.bytes ≡ Ok file.lines
  pub numbered : numbers ≡ numbers_of file.bytes
  pub cut : map (λ text. text.now) texts ≡ lines (without_byte_order_mark file.bytes)

-- the line at this position is an exception, or it isn't
abbrev pub IsLineAt : IgnoreFile → ℕ → Bool → Type 0
IsLineAt file position exception = (line : Line) × (slice_get file.lines position ≡ Some line) × (line.exception ≡ exception)

-- the line at this position has a number, and the line of that number a text
pub record IsKnownLine (file : IgnoreFile) (numbers : List ℕ) (texts : List (Bor (List ℕ))) (position : ℕ) (exception : Bool) : Type 0 where
  pub line : Line
  pub is : line.exception ≡ exception
  pub number : ℕ
  pub text : Bor (List ℕ)
  pub numbered : slice_get numbers position ≡ Some number
  pub cut : slice_get texts (number - 1) ≡ Some text
  pub stands : StandsAt file position line number text.now
  pub within : position < length numbers
  pub less : get_or numbers position 0 - 1 < length texts

-- what is told of a path by the line that decides, if one does
abbrev pub TellsNames : IgnoreFile → List ℕ → List (List ℕ) → List ℕ → Type 0
TellsNames file word path told = (deciding : Option ℕ) × IsDeciding file.lines path deciding × TellsLine file word deciding told
