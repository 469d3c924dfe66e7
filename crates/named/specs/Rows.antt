-- Values by names: each name once, in the order in which the names came first, with the last value that it was given (own).
use Rattle.std.specs.Prelude.{ℕ, Bool, true, not, ◌&&◌, List, [], ◌∷◌, ◌++◌, Option, bytes_eq, if◌then◌else◌}
use Rattle.std.specs.List.{list_any}
use Rattle.std.specs.Option.{option_or}

module _ {V : Type 0} where
  -- the rows with a value for a name, in the place that the name has, or at the end where it has none
  abbrev pub put_row : List (List ℕ × V) → List ℕ → V → List (List ℕ × V)
  put_row [] name value = (name, value) ∷ []
  put_row (row ∷ rows) name value = if bytes_eq name row.0 then (row.0, value) ∷ rows else row ∷ put_row rows name value

  -- the rows with more of them put, one after another
  abbrev pub put_rows : List (List ℕ × V) → List (List ℕ × V) → List (List ℕ × V)
  put_rows rows [] = rows
  put_rows rows (row ∷ more) = put_rows (put_row rows row.0 row.1) more

  -- a row has the name
  abbrev pub has_row : List ℕ → List (List ℕ × V) → Bool
  has_row name rows = list_any (λ row. bytes_eq name row.0) rows

  -- the rows with one more at the end, unless its name is there
  abbrev pub add_row : List (List ℕ × V) → List ℕ → V → List (List ℕ × V)
  add_row rows name value = if has_row name rows then rows else rows ++ (name, value) ∷ []

  -- no two of the rows have the same name
  abbrev pub are_once : List (List ℕ × V) → Bool
  are_once [] = true
  are_once (row ∷ rows) = not (has_row row.0 rows) && are_once rows

  -- the rows with a value for a name, or with the name alone: where there is no value, a name that is there keeps what it has
  abbrev pub give_row : List (List ℕ × Option V) → List ℕ → Option V → List (List ℕ × Option V)
  give_row [] name value = (name, value) ∷ []
  give_row (row ∷ rows) name value = if bytes_eq name row.0 then (row.0, option_or value row.1) ∷ rows else row ∷ give_row rows name value

  -- the rows with more of them given, one after another
  abbrev pub give_rows : List (List ℕ × Option V) → List (List ℕ × Option V) → List (List ℕ × Option V)
  give_rows rows [] = rows
  give_rows rows (row ∷ more) = give_rows (give_row rows row.0 row.1) more
