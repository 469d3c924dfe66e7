use Rattle.std.proofs.Common.{◌∙◌, ap}
use Rattle.trees.specs.PrivateSeen.{seen}
use Rattle.trees.proofs.SeenSteps.{seen-twice}
use Rattle.trees.proofs.lent_node.LentNode.placed.Goals as goal

pub returns : goal.returns
returns c = c.of.ensures ∙ seen-twice c.then.result c.self.inside.options c.args.options.now c.then.ensures c.self.inside.node.now ∙ ap (seen c.args.options.now) c.self.view_is
