use Rattle.std.proofs.Common.{◌∙◌, ap}
use Rattle.trees.specs.declared.copy.CopyOptions.{CopyOptions}
use Rattle.trees.specs.PrivateSeen.{seen}
use Rattle.trees.proofs.SeenSteps.{seen-keeping}
use Rattle.trees.proofs.node.Node.lent.Goals as goal

pub returns : goal.returns
returns c = c.of.ensures ∙ ap (λ (o : CopyOptions). seen o c.args.self.now) c.keeping.ensures ∙ seen-keeping c.args.self.now
