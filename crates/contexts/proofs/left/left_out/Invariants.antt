use Rattle.std.proofs.Common.{◌≡◌, ◌++◌, length}
use Rattle.contexts.proofs.left.left_out.Given as goal

abbrev pub invariant-loop-path : goal.invariant-loop-path
invariant-loop-path l = l.left ++ l.found.keys ≡ l.initial.found.keys

abbrev pub decreases-loop-path : goal.decreases-loop-path
decreases-loop-path l = length l.found.keys
