use Rattle.std.proofs.Common.{◌≤◌, ◌-◌}
use Rattle.trees.specs.PrivateSpine.{AreShut}
use Rattle.trees.proofs.spine.close.Given as goal

-- so many are closed
abbrev pub invariant-closing : goal.invariant-closing
invariant-closing l = AreShut l.fn.folders.items l.folders.items l.closed × (l.closed ≤ l.count)

abbrev pub decreases-closing : goal.decreases-closing
decreases-closing l = l.count - l.closed
