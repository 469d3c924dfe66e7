-- What lies below a path: the proper fronts of a path are the directories that it lies in, at any depth.
use Rattle.std.specs.Prelude.{ℕ, Bool, true, false, ◌&&◌, List, [], ◌∷◌, map}
use Rattle.std.specs.Ordering.{eq_by_cmp}
use Rattle.paths.specs.Order.{name_cmp}

-- whether front is a proper front of path: path lies below it, at any depth
abbrev pub is_front : List (List ℕ) → List (List ℕ) → Bool
is_front [] [] = false
is_front [] (c ∷ cs) = true
is_front (d ∷ ds) [] = false
is_front (d ∷ ds) (c ∷ cs) = eq_by_cmp name_cmp d c && is_front ds cs

-- the proper fronts of a path, the shortest first: those of /a/b are / and /a
abbrev pub fronts : List (List ℕ) → List (List (List ℕ))
fronts [] = []
fronts (c ∷ cs) = [] ∷ map (λ front. c ∷ front) (fronts cs)
