-- An object's members in the order of their keys, each key and value lent.
use Rattle.std.specs.Prelude.{ℕ, List, [], ◌∷◌}
use Rattle.std.specs.Borrow.{Bor}
use Rattle.json.specs.declared.value.Value.{Value}
use Rattle.serde_json.specs.Data.{Members, no_members, member}
use Rattle.borrowed.specs.Seen.{data_of}

abbrev pub rows_data : {A : Type 0} → List (Bor (List ℕ) × Bor (Value A)) → Members
rows_data [] = no_members
rows_data (r ∷ rows) = member r.0.now (data_of r.1.now) (rows_data rows)
