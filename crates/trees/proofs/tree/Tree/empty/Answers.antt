use Rattle.trees.specs.PrivateNode.{NodeValue}
use Rattle.trees.proofs.TreeSteps.{IsTree-leaf}
use Rattle.std.proofs.Common.{◌∙◌, ap}
use Rattle.trees.specs.declared.entry.Entry.TheVariants.{Directory}
use Rattle.trees.proofs.tree.Tree.empty.Goals as goal

pub invariant_of-result : goal.invariant_of-result
invariant_of-result c = IsTree-leaf c.leaf.result (ap (λ (n : NodeValue). n.top) c.leaf.ensures ∙ ap Directory c.directory.ensures) (ap (λ (n : NodeValue). n.below) c.leaf.ensures)
