use Rattle.std.proofs.Common.{◌≡◌, drop}
use Rattle.lacking.specs.Missing.{missed_at}
use Rattle.lacking.proofs.missing.missed_at.Given as goal

-- the stages that are left decide
abbrev pub invariant-loop-row : goal.invariant-loop-row
invariant-loop-row l = missed_at l.trees l.line l.rows ≡ missed_at l.trees l.line (drop l.row-index l.rows)
