use Rattle.trees.proofs.BranchSteps.{are-children_from}
use Rattle.trees.proofs.branch.Branch.children_from.Goals as goal

pub returns : goal.returns
returns c = are-children_from c.self.inside.node c.args.self.now c.args.front.now c.kids_from.result c.self.view_is c.kids_from.ensures
