-- How the last line that decides is looked for. The rank of the line at position n is n + 1, and 0 is the rank of no line: what decides of
-- a path is the greatest rank of the lines that touch it.
use Rattle.std.specs.Prelude.{◌≡◌, ◌<◌, ◌≤◌, ◌+◌, ◌-◌, ℕ, true, List, Some, [], ◌∷◌, ◌++◌, ◌⊎◌, length, get_or, slice_get, take, IsUtf8}
use Rattle.globs.specs.Component.{IsOnlyName, BeginsWith, EndsWith}
use Rattle.ignorefile.specs.declared.line.Segment.{Segment}
use Rattle.ignorefile.specs.declared.line.Segment.TheVariants.{Deep, Named}
use Rattle.ignorefile.specs.declared.line.Line.{Line}
use Rattle.ignorefile.specs.Line.{Relates}
use Rattle.ignorefile.specs.Kept.{TouchesAt}

-- the line at this position relates to just this path
abbrev pub RelatesAt : List Line → List (List ℕ) → ℕ → Type 0
RelatesAt lines path n = (line : Line) × ((slice_get lines n ≡ Some line) × Relates line path)

-- a segment that takes one name takes this one alone
abbrev pub TakesOnly : Segment → List ℕ → Type 0
TakesOnly Deep name = ⊥
TakesOnly (Named parts) name = IsOnlyName parts name

-- a segment that takes one name takes only such that begin with this byte
abbrev pub TakesBeginning : Segment → ℕ → Type 0
TakesBeginning Deep byte = ⊥
TakesBeginning (Named parts) byte = BeginsWith parts byte

-- a segment that takes one name takes only such that end with this byte
abbrev pub TakesEnding : Segment → ℕ → Type 0
TakesEnding Deep byte = ⊥
TakesEnding (Named parts) byte = EndsWith parts byte

-- every path that a line relates to ends in this name
abbrev pub EndsIn : Line → List ℕ → Type 0
EndsIn line name = (path : List (List ℕ)) → Relates line path → (front : List (List ℕ)) × ((last : List ℕ) × ((path ≡ front ++ last ∷ []) × (IsUtf8 last → last ≡ name)))

-- every path that a line relates to ends in a name that begins with this byte
abbrev pub LastBegins : Line → ℕ → Type 0
LastBegins line byte = (path : List (List ℕ)) → Relates line path → (front : List (List ℕ)) × ((rest : List ℕ) × (path ≡ front ++ (byte ∷ rest) ∷ []))

-- every path that a line relates to ends in a name that ends with this byte
abbrev pub LastEnds : Line → ℕ → Type 0
LastEnds line byte = (path : List (List ℕ)) → Relates line path → (front : List (List ℕ)) × ((begin : List ℕ) × (path ≡ front ++ (begin ++ byte ∷ []) ∷ []))

-- every path that a line relates to lies right in a folder of this name
abbrev pub LiesIn : Line → List ℕ → Type 0
LiesIn line name = (path : List (List ℕ)) → Relates line path → (front : List (List ℕ)) × ((last : List ℕ) × (path ≡ (front ++ name ∷ []) ++ last ∷ []))

-- every path that a line relates to has so many names
abbrev pub HasCount : Line → ℕ → Type 0
HasCount line count = (path : List (List ℕ)) → Relates line path → length path ≡ count

abbrev pub Member : ℕ → List ℕ → Type 0
Member n ns = (i : ℕ) × ((i < length ns) × (get_or ns i 0 ≡ n))

abbrev pub AreWithin : ℕ → List ℕ → Type 0
AreWithin bound ns = (n : ℕ) → Member n ns → n < bound

-- positions below a bound, each less than those behind it
pub record AreInOrder (bound : ℕ) (ns : List ℕ) : Type 0 where
  pub within : AreWithin bound ns
  pub rise : (i j : ℕ) → i < j → j < length ns → get_or ns i 0 < get_or ns j 0

-- a line's rank where it relates and is greater, else the rank before
pub record IsRaised (lines : List Line) (n : ℕ) (path : List (List ℕ)) (before rank : ℕ) : Type 0 where
  pub least : before ≤ rank
  pub hit : before < rank → (rank ≡ n + 1) × RelatesAt lines path n
  pub miss : rank ≤ n → RelatesAt lines path n → ⊥

-- the greatest rank of the lines at some positions, from a rank on
pub record IsBest (lines : List Line) (ns : List ℕ) (path : List (List ℕ)) (above rank : ℕ) : Type 0 where
  pub least : above ≤ rank
  pub hit : above < rank → RelatesAt lines path (rank - 1)
  pub miss : (n : ℕ) → Member n ns → rank ≤ n → RelatesAt lines path n → ⊥

-- and of all lines
pub record IsVerdict (lines : List Line) (path : List (List ℕ)) (above rank : ℕ) : Type 0 where
  pub least : above ≤ rank
  pub hit : above < rank → RelatesAt lines path (rank - 1)
  pub miss : (n : ℕ) → rank ≤ n → RelatesAt lines path n → ⊥

-- the rank of the last line that touches a path, 0 where none does
pub record IsDecided (lines : List Line) (path : List (List ℕ)) (rank : ℕ) : Type 0 where
  pub hit : 0 < rank → TouchesAt lines path (rank - 1)
  pub miss : (n : ℕ) → rank ≤ n → TouchesAt lines path n → ⊥

-- a rank lets a path be kept: that of no line, or of an exception
abbrev pub Lets : List Line → ℕ → Type 0
Lets lines rank = (rank ≡ 0) ⊎ ((line : Line) × ((slice_get lines (rank - 1) ≡ Some line) × (line.exception ≡ true)))

-- two paths share just so many first names, or more
pub record IsShared (these those : List (List ℕ)) (shared : ℕ) : Type 0 where
  pub left : shared ≤ length these
  pub right : shared ≤ length those
  pub same : take shared these ≡ take shared those
