use Rattle.std.proofs.Common.{◌∙◌, sym, ap}
use Rattle.trees.specs.TreeMap.{meta_of}
use Rattle.trees.specs.Copy.{placed_meta}
use Rattle.trees.proofs.SeenSteps.{meta-placed}
use Rattle.trees.proofs.lent_node.LentNode.meta.Goals as goal

pub returns : goal.returns
returns c = c.placed_meta.ensures ∙ ap (placed_meta c.stored-options.result.0) c.meta.ensures ∙ sym (meta-placed c.stored-options.result.0 c.stored-options.result.1.now) ∙ ap meta_of c.stored-options.ensures
