use Rattle.std.proofs.Common.{[], None, refl}
use Rattle.trees.proofs.BranchSteps.{under-name}
use Rattle.trees.proofs.lent_node.LentNode.child.Goals as goal

pub returns-in-None : goal.returns-in-None
returns-in-None c = under-name c.args.self.now c.args.self.now.top [] c.args.name.now None c.in-None.ensures refl

pub returns-in-Some : goal.returns-in-Some
returns-in-Some c = under-name c.args.self.now c.args.self.now.top c.in-Some.kids c.args.name.now c.get.result c.in-Some.ensures c.get.ensures
