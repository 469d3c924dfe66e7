-- What a seat knows that is the keeper's and another one's together.
use Rattle.std.specs.Prelude.{ℕ, true, false, List, []}
use Rattle.rolls.specs.declared.note.Told.{Told}
use Rattle.rolls.specs.declared.rule.View.{View}

-- the keeper with a slip beside it (own)
abbrev pub seated : List (ℕ × Told) → ℕ → List Told → View
seated all worker mine = record { keeps = true; all = all; gives = false; given = 0; sits = true; worker = worker; mine = mine }

-- the keeper with the giver beside it (own)
abbrev pub handing : List (ℕ × Told) → ℕ → View
handing all given = record { keeps = true; all = all; gives = true; given = given; sits = false; worker = 0; mine = [] }
