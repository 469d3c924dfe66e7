-- Marks on numbers, and marks on all that steps lead to from one of them (own). The numbers are those of values in a list, as a stage's
-- or a vertex's, and what a step is each user says.
use Rattle.std.specs.Prelude.{◌≡◌, ℕ, Bool, false, List, [], ◌∷◌, slice_index_or}

-- whether a number is marked
abbrev pub is_marked : List Bool → ℕ → Bool
is_marked marks k = slice_index_or marks k false

-- a step leads to each number of a path from the one before it, and the last one is `to`
abbrev pub IsPath : (ℕ → ℕ → Type 0) → ℕ → List ℕ → ℕ → Type 0
IsPath Step from [] to = from ≡ to
IsPath Step from (next ∷ path) to = Step from next × IsPath Step next path to

-- a number is the first one, or steps lead to it from there
abbrev pub IsReached : (ℕ → ℕ → Type 0) → ℕ → ℕ → Type 0
IsReached Step first to = (path : List ℕ) × IsPath Step first path to
