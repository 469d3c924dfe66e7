use Rattle.std.proofs.Common.{◌≡◌, map, take}
use Rattle.trees.specs.Row.{Row}
use Rattle.bundle.proofs.filtering.paths_of.Given as goal

abbrev pub invariant-loop-row : goal.invariant-loop-row
invariant-loop-row l = l.paths ≡ map (λ (row : Row). row.0) (take l.row-index l.rows)
