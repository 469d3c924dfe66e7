use Rattle.trees.proofs.TreeLaws.{empty-IsTree, get-empty_tree}
use Rattle.trees.proofs.laws.empty_is_a_tree.Goals as goal

pub returns : goal.returns
returns c = record { tree = empty-IsTree; at = get-empty_tree }
