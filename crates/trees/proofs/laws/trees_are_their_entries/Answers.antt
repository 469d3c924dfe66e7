use Rattle.trees.proofs.TreeLaws.{same_tree}
use Rattle.trees.proofs.laws.trees_are_their_entries.Goals as goal

pub returns : goal.returns
returns c = same_tree
