-- Values by names, and names alone: each name once, in the order in which the names came first, with the last value that it was given.
pub use Rattle.named.specs.Rows.{put_row, put_rows}
use Rattle.std.specs.Prelude.{ℕ, List, [], ◌∷◌, ◌++◌, map, bytes_eq, if◌then◌else◌}
use Rattle.std.specs.List.{list_any}

-- a name with its value
abbrev pub Row : Type 0
Row = List ℕ × List ℕ

-- the names of rows, one for each
abbrev pub names_of : List Row → List (List ℕ)
names_of rows = map (λ row. row.0) rows

-- names with one more, unless it is there
abbrev pub add_name : List (List ℕ) → List ℕ → List (List ℕ)
add_name names name = if list_any (bytes_eq name) names then names else names ++ name ∷ []

-- names with more of them, one after another
abbrev pub add_names : List (List ℕ) → List (List ℕ) → List (List ℕ)
add_names names [] = names
add_names names (name ∷ more) = add_names (add_name names name) more
