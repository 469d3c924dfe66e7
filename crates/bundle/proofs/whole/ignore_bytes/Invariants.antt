use Rattle.std.proofs.Common.{◌≡◌, drop}
use Rattle.bundle.specs.Reading.{ignore_bytes}
use Rattle.bundle.proofs.whole.ignore_bytes.Given as goal

-- the rows that are left decide
abbrev pub invariant-loop-row : goal.invariant-loop-row
invariant-loop-row l = ignore_bytes l.rows ≡ ignore_bytes (drop l.row-index l.rows)
