use Rattle.std.proofs.Common.{◌∙◌, sym, ap, Some}
use Rattle.trees.specs.declared.entry.Entry.{Entry}
use Rattle.trees.specs.TreeMap.{is_directory}
use Rattle.trees.proofs.SeenSteps.{kind-placed}
use Rattle.trees.proofs.lent_node.LentNode.is_directory.Goals as goal

pub returns : goal.returns
returns c = c.is_directory.ensures ∙ sym (kind-placed c.stored.result.0 c.stored.result.1.now) ∙ ap (λ (e : Entry). is_directory (Some e)) c.stored.ensures
