-- The index beside the steps of a generation (own): under each key the numbers of steps that were entered under it.
use Rattle.std.specs.Prelude.{◌≡◌, ◌==◌, ℕ, List, [], ◌∷◌, ◌++◌, if◌then◌else◌}
use Rattle.std.specs.Option.{unwrap_or}
use Rattle.std.specs.Ordering.{nat_cmp}
use Rattle.std.specs.BTreeMap.{get}
use Rattle.memo.specs.declared.index.Index.{Index}

-- the numbers under a key, in the order of entering
abbrev pub under : Index → ℕ → List ℕ
under index key = unwrap_or (get nat_cmp index.numbers key) []

-- to the numbers under the key came this one, and to those under every other key none
abbrev pub Enters : Index → Index → ℕ → ℕ → Type 0
Enters old new key number = (other : ℕ) → under new other ≡ under old other ++ (if other == key then number ∷ [] else [])

-- under each key stayed the numbers that were there
abbrev pub SameUnder : Index → Index → Type 0
SameUnder old new = (key : ℕ) → under new key ≡ under old key
