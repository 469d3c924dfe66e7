use Rattle.std.proofs.Common.{◌∙◌, sym, ap, []}
use Rattle.std.specs.Arc.{arc_value}
use Rattle.trees.specs.declared.entry.Entry.{Entry}
use Rattle.trees.specs.PrivateNode.{node_of}
use Rattle.trees.specs.PrivateHeld.{held_value}
use Rattle.trees.specs.PrivateSeen.{seen}
use Rattle.trees.proofs.SeenSteps.{seen-node, seen-twice}
use Rattle.trees.proofs.node.Node.placed.Goals as goal

pub returns-in_ok-placed_entry-in-Leaf : goal.returns-in_ok-placed_entry-in-Leaf
returns-in_ok-placed_entry-in-Leaf c =
    c.leaf.ensures ∙ ap (λ (e : Entry). node_of e []) c.in_ok-placed_entry-in-Leaf.ensures ∙ seen-node c.args.options.now c.in-Leaf.entry [] ∙ ap (seen c.args.options.now) (sym (ap held_value c.in-Leaf.is) ∙ c.self.view_is)

pub returns-in_ok-shared-in-Folder : goal.returns-in_ok-shared-in-Folder
returns-in_ok-shared-in-Folder c =
    ap (seen c.then.result) c.in_ok-shared-in-Folder.ensures
    ∙ seen-twice c.then.result c.in-Folder.put_on c.args.options.now c.then.ensures (arc_value c.in-Folder.inner)
    ∙ ap (seen c.args.options.now) (sym (ap held_value c.in-Folder.is) ∙ c.self.view_is)
