use Rattle.std.proofs.Common.{◌≡◌, ◌∙◌, sym, ap}
use Rattle.std.specs.Arc.{arc_value}
use Rattle.trees.specs.PrivateNode.{NodeValue}
use Rattle.trees.specs.PrivateHeld.{held_value}
use Rattle.trees.specs.PrivateSeen.{seen}
use Rattle.std.proofs.lemmas.Result.{IfOk-weaker}
use Rattle.trees.proofs.SeenSteps.{leaf-below, folder-seen}
use Rattle.trees.proofs.lent_node.LentNode.with_entry.Goals as goal

pub returns-in-Leaf-clause-below : goal.returns-in-Leaf-clause-below
returns-in-Leaf-clause-below c =
    leaf-below c.self.inside.options c.in-Leaf.field-0 c.args.entry c.self.inside.node.now c.args.self.now c.leaf.result (sym (ap held_value c.in-Leaf.is) ∙ c.held.ensures) c.self.view_is c.leaf.ensures

pub returns-in_ok-other-in-Folder-clause-below : goal.returns-in_ok-other-in-Folder-clause-below
returns-in_ok-other-in-Folder-clause-below c =
    IfOk-weaker c.of_inner.result _ (λ n. n.below ≡ c.args.self.now.below)
    (λ n same. ap (λ (v : NodeValue). v.below) same ∙ c.in_ok-other-in-Folder.ensures.below
    ∙ ap (λ (v : NodeValue). v.below) (ap (seen c.then-options.result) c.deref.ensures ∙ folder-seen c.in-Folder.put_on c.self.inside.options c.then-options.result (arc_value c.in-Folder.inner) c.self.inside.node.now c.args.self.now c.then-options.ensures (sym (ap held_value c.in-Folder.is) ∙ c.held.ensures) c.self.view_is))
    c.of_inner.ensures
