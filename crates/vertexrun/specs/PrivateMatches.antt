-- What a search for a pattern's matches finds below a path.
use Rattle.std.specs.Prelude.{◌≡◌, ℕ, Bool, List, ◌++◌, map}
use Rattle.std.specs.List.{AllByRecursion, filter}
use Rattle.paths.specs.Path.{IsClean}
use Rattle.trees.specs.declared.entry.Entry.{Entry}

-- the paths of rows of which a test holds, each as it is called from further up, where the rows are those at and below this path
abbrev pub paths_that : List (List ℕ) → (List (List ℕ) → Bool) → List (List (List ℕ) × Entry) → List (List (List ℕ))
paths_that at test rows = map (λ row. at ++ row.0) (filter (λ row. test row.0) rows)

-- all paths of rows at and below this path keep the limits
abbrev pub AreClean : List (List ℕ) → List (List (List ℕ) × Entry) → Type 0
AreClean at rows = AllByRecursion (λ row. IsClean (at ++ row.0)) rows

-- a name begins with a text
abbrev pub BeginsAs : List ℕ → List ℕ → Type 0
BeginsAs front name = (rest : List ℕ) × (name ≡ front ++ rest)
