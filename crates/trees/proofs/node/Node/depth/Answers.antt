use Rattle.std.proofs.Common.{◌∙◌, sym, ap, subst}
use Rattle.std.specs.Arc.{arc_value}
use Rattle.trees.specs.PrivateNode.{NodeValue, IsDepth}
use Rattle.trees.specs.PrivateHeld.{held_value}
use Rattle.trees.proofs.SeenSteps.{depth-seen, leaf-depth}
use Rattle.trees.proofs.node.Node.depth.Goals as goal

pub returns-in-Leaf : goal.returns-in-Leaf
returns-in-Leaf c = leaf-depth c.in-Leaf.field-0 c.args.self.now (sym (ap held_value c.in-Leaf.is) ∙ c.self.view_is)

pub returns-in-Folder : goal.returns-in-Folder
returns-in-Folder c =
    subst (λ (n : NodeValue). IsDepth c.depth.result n.below) (sym (ap held_value c.in-Folder.is) ∙ c.self.view_is)
    (depth-seen c.in-Folder.field-1 c.depth.result (arc_value c.in-Folder.inner).below (subst (λ (n : NodeValue). IsDepth c.depth.result n.below) c.deref.ensures c.depth.ensures))
