use Rattle.std.proofs.lemmas.Bool.{leb-true}
use Rattle.trees.proofs.WalkSteps.{bare_kids}
use Rattle.trees.proofs.walk.has_bare_kids.Goals as goal

pub returns : goal.returns
returns c = λ few. bare_kids c.args.node.now c.depth.result c.depth.ensures (leb-true c.depth.result 1 few)
