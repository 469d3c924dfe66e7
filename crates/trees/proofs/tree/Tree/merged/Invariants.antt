use Rattle.std.proofs.Common.{◌≡◌, drop}
use Rattle.std.specs.List.{fold}
use Rattle.trees.specs.Over.{over, merged}
use Rattle.trees.proofs.tree.Tree.merged.Given as goal

-- what is left is laid over the tree so far
abbrev pub invariant-loop-upper : goal.invariant-loop-upper
invariant-loop-upper l = fold over l.tree (drop l.upper-index l.rest) ≡ merged l.fn.trees
