use Rattle.std.proofs.Common.{◌≡◌, map, take, ℕ, List}
use Rattle.serde_json.specs.View.{view}
use Rattle.trees.specs.declared.entry.Entry.{Entry}
use Rattle.trees.specs.Rows.{lent_rows}
use Rattle.entries.specs.Written.{entry_data}
use Rattle.entries.proofs.writing.entries_value.Given as goal

-- the values so far are those of the entries so far
abbrev pub invariant-loop-row : goal.invariant-loop-row
invariant-loop-row l = map view l.values.items ≡ map {A = List (List ℕ) × Entry} (λ row. entry_data row.0 row.1) (lent_rows (take l.row-index l.entries))
