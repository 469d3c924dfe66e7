use Rattle.std.proofs.Common.{◌∙◌, sym, ap}
use Rattle.std.specs.Arc.{arc_value}
use Rattle.trees.specs.PrivateHeld.{held_value}
use Rattle.trees.specs.PrivateNode.{node_of, NodeValue}
use Rattle.trees.proofs.SeenSteps.{leaf-children, folder-children}
use Rattle.trees.proofs.lent_node.LentNode.children.Goals as goal

pub returns-in-Leaf : goal.returns-in-Leaf
returns-in-Leaf c =
    leaf-children c.self.inside.options c.in-Leaf.field-0 c.self.inside.node.now c.args.self.now (sym (ap held_value c.in-Leaf.is) ∙ c.held.ensures) c.self.view_is

pub returns-in-Folder : goal.returns-in-Folder
returns-in-Folder c =
    folder-children c.in-Folder.put_on c.self.inside.options c.then.result c.kids.result.now c.of.result (arc_value c.in-Folder.inner) c.self.inside.node.now c.args.self.now c.then.ensures
    (ap (λ (n : NodeValue). node_of n.top c.kids.result.now) (sym c.deref.ensures) ∙ c.kids.ensures ∙ c.deref.ensures) (sym (ap held_value c.in-Folder.is) ∙ c.held.ensures) c.self.view_is c.of.ensures
