use Rattle.trees.proofs.CopyLaws.{get-changed_tree}
use Rattle.trees.proofs.CopyTrees.{copied-IsTree, copied-file}
use Rattle.trees.proofs.laws.a_copy_is_a_flat_map.Goals as goal

pub returns : goal.returns
returns c = record { at = get-changed_tree; tree = copied-IsTree; file = copied-file }
