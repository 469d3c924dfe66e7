-- The rows that were made in runs, of which only snapshots are kept (own).
use Rattle.std.specs.Prelude.{List, Vec, flat_map}
use Rattle.std.specs.Global.{Global}
use Rattle.std.specs.declared.snapshot.Snapshot.{Snapshot}
use Rattle.trees.specs.Row.{Row}

-- the rows of all runs, one run after another
abbrev pub rows_of_runs : List (Snapshot (Vec Row Global)) → List Row
rows_of_runs runs = flat_map (λ run. run.value.items) runs
