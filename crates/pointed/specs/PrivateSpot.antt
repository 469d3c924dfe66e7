-- What is left of a line.
use Rattle.std.specs.Prelude.{◌≡◌, ◌++◌, ℕ, List}

-- a line ends with this
abbrev pub IsEndOf : List ℕ → List ℕ → Type 0
IsEndOf line left = (front : List ℕ) × (line ≡ front ++ left)
