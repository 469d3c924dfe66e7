-- The numbers that are known while a memo gets what vertices gave (own).
use Rattle.std.specs.Prelude.{◌≡◌, ◌<◌, ◌⊎◌, ℕ, List, length, Option, Some, None, slice_index_or, slice_set}
use Rattle.trees.specs.TreeMap.{TreeMap}
use Rattle.plans.specs.Value.{Value}
use Rattle.memo.specs.Memo.{MemoValue, Grows}
use Rattle.solver.specs.Recall.{IsKept}

-- a number that is known for a vertex is that of its tree, by the values of all vertices
abbrev pub AreKept : List Value → List TreeMap → List (Option ℕ) → Type 0
AreKept values kept numbers = (vertex number : ℕ) → slice_index_or numbers vertex None ≡ Some number → IsKept values kept vertex number

-- a memo has grown, and these numbers are those of its recent trees
pub record Remembers {E : Type 0} (values : List Value) (old new : MemoValue E) (numbers : List (Option ℕ)) : Type 0 where
  pub grows : Grows old new
  pub kept : AreKept values new.recent.trees numbers

-- a number was put at a place, if there is such a place
abbrev pub IsPut : List (Option ℕ) → List (Option ℕ) → ℕ → ℕ → Type 0
IsPut old new place number = (new ≡ old) ⊎ ((place < length old) × (new ≡ slice_set old place (Some number)))
