use Rattle.trees.proofs.WalkSteps.{bare-node}
use Rattle.trees.proofs.walk.is_bare.Goals as goal

pub returns-else-is_known : goal.returns-else-is_known
returns-else-is_known c = λ bare. bare-node c.args.node.now (c.is_bare.ensures.bare bare)
