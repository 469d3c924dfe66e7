-- What an ignore file keeps: the last line that relates to a path, or to one that it lies under, decides (.dockerignore rules).
use Rattle.std.specs.Prelude.{◌≡◌, ◌<◌, ℕ, true, List, Some, ◌++◌, ◌⊎◌, Option, None, slice_get}
use Rattle.ignorefile.specs.declared.line.Line.{Line}
use Rattle.ignorefile.specs.Line.{Relates}

-- a line relates to a path or to one that it lies under
abbrev pub Touches : Line → List (List ℕ) → Type 0
Touches line path = (front : List (List ℕ)) × ((rest : List (List ℕ)) × ((path ≡ front ++ rest) × Relates line front))

-- the line at this position does
abbrev pub TouchesAt : List Line → List (List ℕ) → ℕ → Type 0
TouchesAt lines path n = (line : Line) × ((slice_get lines n ≡ Some line) × Touches line path)

-- a path is kept: no line touches it, or the last one that does is an exception
abbrev pub Kept : List Line → List (List ℕ) → Type 0
Kept lines path =
    ((n : ℕ) → TouchesAt lines path n → ⊥)
    ⊎ ((n : ℕ) × ((line : Line) × ((slice_get lines n ≡ Some line) × (Touches line path × ((line.exception ≡ true) × ((m : ℕ) → n < m → TouchesAt lines path m → ⊥))))))

-- nothing is kept at a path nor below it
abbrev pub KeepsNothing : List Line → List (List ℕ) → Type 0
KeepsNothing lines path = (rest : List (List ℕ)) → Kept lines (path ++ rest) → ⊥

-- which line decides of a path: the last one that touches it, or none where no line does
abbrev pub IsDeciding : List Line → List (List ℕ) → Option ℕ → Type 0
IsDeciding lines path None = (n : ℕ) → TouchesAt lines path n → ⊥
IsDeciding lines path (Some n) = TouchesAt lines path n × ((m : ℕ) → n < m → TouchesAt lines path m → ⊥)

-- the line that decides lets a path be kept: there is none, or it is an exception
abbrev pub LetsKeep : List Line → Option ℕ → Type 0
LetsKeep lines None = Unit {0}
LetsKeep lines (Some n) = (line : Line) × ((slice_get lines n ≡ Some line) × (line.exception ≡ true))
