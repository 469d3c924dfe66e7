use Rattle.std.proofs.Common.{◌≡◌, ◌++◌}
use Rattle.borrowed.specs.Rows.{owned_rows}
use Rattle.borrowed.proofs.pulling.owned_rows.Given as goal

-- the rows that were made, and those that are left, are all
abbrev pub invariant-loop-key : goal.invariant-loop-key
invariant-loop-key g l = l.rows ++ owned_rows l.key-iterator ≡ owned_rows l.initial.key-iterator
