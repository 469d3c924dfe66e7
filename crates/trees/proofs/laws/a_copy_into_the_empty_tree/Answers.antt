use Rattle.trees.proofs.CopyTrees.{get-changed_tree-empty, goes-empty}
use Rattle.trees.proofs.laws.a_copy_into_the_empty_tree.Goals as goal

pub returns : goal.returns
returns c = record { at = get-changed_tree-empty; into = goes-empty }
