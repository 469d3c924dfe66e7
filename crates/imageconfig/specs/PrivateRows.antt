-- What a set of names is seen as, and how rows are taken one after another where no name may be there twice.
use Rattle.std.specs.Prelude.{ℕ, List, [], ◌∷◌, ◌++◌, map, Option, Some, None, if◌then◌else◌}
use Rattle.named.specs.Rows.{has_row}
use Rattle.imageconfig.specs.Rows.{Row}

-- the names of rows, whatever their values
abbrev pub of_names : {V : Type 0} → List (List ℕ × V) → List (List ℕ)
of_names rows = map (λ row. row.0) rows

-- rows with more of them, where none has a name that is there
abbrev pub add_rows : List Row → List Row → Option (List Row)
add_rows rows [] = Some rows
add_rows rows (row ∷ more) = if has_row row.0 rows then None else add_rows (rows ++ row ∷ []) more
