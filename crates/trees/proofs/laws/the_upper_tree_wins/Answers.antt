use Rattle.trees.proofs.TreeLaws.{get-over, over-IsTree, merged-IsTree}
use Rattle.trees.proofs.laws.the_upper_tree_wins.Goals as goal

pub returns : goal.returns
returns c = record { at = get-over; tree = over-IsTree; merged = merged-IsTree }
