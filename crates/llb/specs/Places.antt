-- The lines of a Dockerfile that are behind a vertex of a graph: in ascending order, each once (own). Equal instructions on
-- several lines are one vertex, and it has the lines of all.
use Rattle.std.specs.Prelude.{◌<◌, ◌≤◌, ℕ, Option, Some, None, List, [], ◌∷◌, ◌++◌, min, nat_lt, slice_set, slice_index_or}
use Rattle.std.specs.List.{filter}
use Rattle.plain.specs.Limits.{most_line_number}

-- the number of a line
abbrev pub IsLine : ℕ → Type 0
IsLine line = (0 < line) × (line ≤ most_line_number)

-- lines in ascending order, all after low
abbrev pub AscendFrom : ℕ → List ℕ → Type 0
AscendFrom low [] = Unit {0}
AscendFrom low (line ∷ lines) = (low < line) × ((line ≤ most_line_number) × AscendFrom line lines)

-- numbers of lines in ascending order, each once
abbrev pub AreLines : List ℕ → Type 0
AreLines lines = AscendFrom 0 lines

-- the lines with one more among them: those before it, it, and those after it
abbrev pub with_line : ℕ → List ℕ → List ℕ
with_line line lines = filter (λ other. nat_lt other line) lines ++ line ∷ filter (λ other. nat_lt line other) lines

-- the lines with all of these among them
abbrev pub with_lines : List ℕ → List ℕ → List ℕ
with_lines [] lines = lines
with_lines (line ∷ more) lines = with_lines more (with_line line lines)

-- the line of an instruction, if it is that of one, as a list of lines
abbrev pub lines_of : Option ℕ → List ℕ
lines_of None = []
lines_of (Some line) = line ∷ []

-- the lines of all vertices, with these more for the vertex at this number
abbrev pub places_with : List ℕ → ℕ → List (List ℕ) → List (List ℕ)
places_with [] at places = places
places_with (line ∷ more) at places = slice_set places at (with_lines (line ∷ more) (slice_index_or places at []))

-- the least of some lines, 0 where there is none
abbrev pub least_line : List ℕ → ℕ
least_line [] = 0
least_line (line ∷ []) = line
least_line (line ∷ other ∷ lines) = min line (least_line (other ∷ lines))
