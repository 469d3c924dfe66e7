use Rattle.std.proofs.Common.{◌≡◌}
use Rattle.std.specs.Vec.Iter.{into_iter_items}
use Rattle.flaws.specs.PrivateRows.{first_found}
use Rattle.flaws.proofs.looking.first_found.Given as goal

-- the rows that are left decide
abbrev pub invariant-loop-key : goal.invariant-loop-key
invariant-loop-key g l = first_found (into_iter_items l.key-iterator) ≡ first_found l.fn.rows
