use Rattle.trees.proofs.SubtreeLaws.{subtree-shown, subtree-IsTree, subtree-root, subtree-blocked}
use Rattle.trees.proofs.laws.a_subtree_is_what_lies_below.Goals as goal

pub returns : goal.returns
returns c = record { at = λ tree below top q e. (subtree-shown tree top below e).at q; tree = λ tree below top h e. subtree-IsTree tree top below h e; root = subtree-root; blocked = subtree-blocked }
