-- The first item of a list that passes a test (own).
use Rattle.std.specs.Prelude.{◌++◌, ℕ, Bool, List, [], ◌∷◌, Option, Some, None, length, if◌then◌else◌}

-- the number of the first of some items that passes a test, which is given the items up to it and it itself; those in `front` stand before these items
-- and count too
abbrev pub first_after : {X : Type 0} → (List X → X → Bool) → List X → List X → Option ℕ
first_after test front [] = None
first_after test front (x ∷ xs) = if test (front ++ x ∷ []) x then Some (length front) else first_after test (front ++ x ∷ []) xs

-- the number of the first item that passes a test, counted from 0
abbrev pub first_that : {X : Type 0} → (List X → X → Bool) → List X → Option ℕ
first_that test items = first_after test [] items
