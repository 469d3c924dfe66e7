use Rattle.std.proofs.Common.{length}
use Rattle.stubs.proofs.RowFacts.{IsRest}
use Rattle.stubs.proofs.stubbing.images_of.Given as goal

abbrev pub decreases-loop-name : goal.decreases-loop-name
decreases-loop-name l = length l.left.entries

-- the rows behind those that are left are inserted
abbrev pub invariant-loop-name : goal.invariant-loop-name
invariant-loop-name l = IsRest l.fn.rows.entries l.left.entries l.images
