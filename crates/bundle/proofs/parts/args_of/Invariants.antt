use Rattle.std.proofs.Common.{length}
use Rattle.std.specs.FinMap.{from_entries}
use Rattle.bundle.proofs.RestFacts.{IsRest}
use Rattle.bundle.proofs.parts.args_of.Given as goal

abbrev pub decreases-loop-name : goal.decreases-loop-name
decreases-loop-name l = length l.left.items

-- the rows behind those that are left are set
abbrev pub invariant-loop-name : goal.invariant-loop-name
invariant-loop-name l = IsRest from_entries l.fn.rows l.left.items l.args
