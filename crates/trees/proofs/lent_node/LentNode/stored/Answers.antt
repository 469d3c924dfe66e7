use Rattle.std.proofs.Common.{◌∙◌, sym, ap}
use Rattle.std.specs.Arc.{arc_value}
use Rattle.trees.specs.PrivateNode.{NodeValue}
use Rattle.trees.specs.PrivateHeld.{held_value}
use Rattle.trees.proofs.SeenSteps.{leaf-top, folder-top}
use Rattle.trees.proofs.lent_node.LentNode.stored.Goals as goal

pub returns-in-Leaf : goal.returns-in-Leaf
returns-in-Leaf c = leaf-top c.self.inside.options c.in-Leaf.entry c.self.inside.node.now c.args.self.now (sym (ap held_value c.in-Leaf.is) ∙ c.held.ensures) c.self.view_is

pub returns-in-Folder : goal.returns-in-Folder
returns-in-Folder c =
    folder-top c.in-Folder.put_on c.self.inside.options c.then.result (arc_value c.in-Folder.inner) c.self.inside.node.now c.args.self.now c.entry.result.now c.then.ensures
    (c.entry.ensures ∙ ap (λ (n : NodeValue). n.top) c.deref.ensures) (sym (ap held_value c.in-Folder.is) ∙ c.held.ensures) c.self.view_is
