-- Positions of lines, each under a number.
use Rattle.std.specs.Prelude.{◌≡◌, ◌==◌, ℕ, List, [], ◌∷◌, ◌++◌, if◌then◌else◌}
use Rattle.std.specs.Option.{unwrap_or}
use Rattle.std.specs.Ordering.{nat_cmp}
use Rattle.std.specs.BTreeMap.{get}
use Rattle.ignorefile.specs.declared.positions.Positions.{Positions}

-- the positions under a number, in the order of entering
abbrev pub under : Positions → ℕ → List ℕ
under positions number = unwrap_or (get nat_cmp positions.by_number number) []

-- to the positions under this number came this one, and to those under every other number none
abbrev pub Enters : Positions → Positions → ℕ → ℕ → Type 0
Enters old new number position = (other : ℕ) → under new other ≡ under old other ++ (if other == number then position ∷ [] else [])
