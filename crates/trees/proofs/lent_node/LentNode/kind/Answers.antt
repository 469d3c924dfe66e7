use Rattle.std.proofs.Common.{◌∙◌, sym, ap, Some}
use Rattle.trees.specs.PrivateNode.{map_of}
use Rattle.trees.specs.Copy.{kind_of}
use Rattle.trees.proofs.TreeSteps.{own-entry}
use Rattle.trees.proofs.lent_node.LentNode.kind.Goals as goal

pub returns-in-Some : goal.returns-in-Some
returns-in-Some c = ap Some c.is_directory.ensures ∙ ap kind_of (sym (own-entry (map_of c.args.self.now) c.args.path.now c.in-Some.node c.in-Some.ensures))
