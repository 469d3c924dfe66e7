use Rattle.std.proofs.Common.{◌≡◌, take}
use Rattle.plans.proofs.sorted.copied_rows.Given as goal

-- what was copied so far are the rows so far
abbrev pub invariant-loop-row : goal.invariant-loop-row
invariant-loop-row g l = l.copied.items ≡ take l.row-index l.rows
