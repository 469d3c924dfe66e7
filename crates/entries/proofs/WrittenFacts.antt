-- No number of an entry is a float.
use Rattle.std.proofs.Common.{◌≡◌, ℕ, false, List, [], ◌∷◌, map, refl}
use Rattle.serde_json.specs.View.{items_of}
use Rattle.serde_json.specs.Written.{has_float, items_have_float}
use Rattle.trees.specs.declared.entry.Entry.{Entry}
use Rattle.trees.specs.declared.entry.Entry.TheVariants.{Directory, File}
use Rattle.trees.specs.Row.{Row}
use Rattle.entries.specs.Written.{entry_data, tree_data}

entry-plain : (path : List (List ℕ)) (entry : Entry) → has_float (entry_data path entry) ≡ false
entry-plain path (Directory meta) = refl
entry-plain path (File meta content) = refl

rows-plain : (rows : List Row) → items_have_float (items_of (map (λ row. entry_data row.0 row.1) rows)) ≡ false
rows-plain [] = refl
rows-plain (row ∷ rows) = rw (entry-plain row.0 row.1) (rows-plain rows)

pub tree-plain : (rows : List Row) → has_float (tree_data rows) ≡ false
tree-plain rows = rows-plain rows
