-- What was found of an object's members, each with its key.
use Rattle.std.specs.Prelude.{ℕ, List, [], ◌∷◌, Option, None}
use Rattle.flaws.specs.Looks.{Way, below, or_else}
use Rattle.flaws.specs.declared.flaw.Step.TheVariants.{Key}
use Rattle.flaws.specs.declared.looking.Looked.{Looked}

-- what was found of a value
abbrev pub looked : {L : Type 0} → Option Way → Looked L
looked found = record { found = found; kind = record {} }

-- what was found first, with its key
abbrev pub first_found : {L : Type 0} → List (List ℕ × Looked L) → Option Way
first_found [] = None
first_found (row ∷ rows) = or_else (below (Key row.0) row.1.found) (first_found rows)
