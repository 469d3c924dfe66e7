use Rattle.std.proofs.Common.{◌≡◌, map, take, Bor}
use Rattle.trees.specs.Row.{Row}
use Rattle.entries.proofs.apart.lent.Given as goal

-- the rows so far
abbrev pub invariant-loop-row : goal.invariant-loop-row
invariant-loop-row l = map (λ (row : Bor Row). row.now) l.lent.items ≡ take l.row-index l.rows
