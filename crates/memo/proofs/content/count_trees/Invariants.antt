use Rattle.std.proofs.Common.{◌≡◌, ◌+◌, drop}
use Rattle.memo.specs.Content.{capped, trees_bytes}
use Rattle.memo.proofs.content.count_trees.Given as goal

-- whoever counts what is left has counted all
abbrev pub invariant-loop-tree : goal.invariant-loop-tree
invariant-loop-tree l = capped (l.count + trees_bytes (drop l.tree-index l.trees)) ≡ capped (l.bytes + trees_bytes l.trees)
