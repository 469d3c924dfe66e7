use Rattle.std.proofs.Common.{◌∙◌, sym, ap, []}
use Rattle.trees.specs.declared.entry.Entry.{Entry}
use Rattle.trees.specs.PrivateNode.{node_of}
use Rattle.trees.specs.PrivateHeld.{held_value}
use Rattle.trees.specs.PrivateSeen.{seen}
use Rattle.trees.proofs.node.Node.copy.Goals as goal

pub returns-in_ok-copy-in-Leaf : goal.returns-in_ok-copy-in-Leaf
returns-in_ok-copy-in-Leaf c =
    c.leaf.ensures ∙ ap (λ (e : Entry). node_of e []) c.in_ok-copy-in-Leaf.ensures ∙ sym (ap held_value c.in-Leaf.is) ∙ c.self.view_is

pub returns-in_ok-shared-in-Folder : goal.returns-in_ok-shared-in-Folder
returns-in_ok-shared-in-Folder c =
    ap (seen c.in-Folder.put_on) c.in_ok-shared-in-Folder.ensures ∙ sym (ap held_value c.in-Folder.is) ∙ c.self.view_is
