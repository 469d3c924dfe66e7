use Rattle.std.proofs.Common.{◌≡◌, ◌+◌, length}
use Rattle.memo.specs.Content.{capped, rows_bytes, tree_bytes}
use Rattle.memo.proofs.content.count_tree.Given as goal

-- whoever counts what is left has counted all
abbrev pub invariant-loop-entry : goal.invariant-loop-entry
invariant-loop-entry l = capped (l.count + rows_bytes l.walk.left) ≡ capped (l.bytes + tree_bytes l.tree)

abbrev pub decreases-loop-entry : goal.decreases-loop-entry
decreases-loop-entry l = length l.walk.left
