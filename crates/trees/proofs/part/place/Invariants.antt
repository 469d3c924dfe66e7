use Rattle.std.proofs.Common.{◌-◌, ◌≤◌, length}
use Rattle.trees.specs.PrivateNode.{lists_of}
use Rattle.trees.proofs.PartLists.{IsSearched}
use Rattle.trees.proofs.part.place.Given as goal

abbrev pub decreases-loop-high : goal.decreases-loop-high
decreases-loop-high l = l.high - l.low

-- the names before are below the name, and those behind above
abbrev pub invariant-loop-high : goal.invariant-loop-high
invariant-loop-high l = (l.low ≤ l.high) × (l.high ≤ length l.parts) × IsSearched l.name (lists_of l.parts) l.low l.high
