use Rattle.trees.proofs.BranchSteps.{are-children}
use Rattle.trees.proofs.branch.Branch.children.Goals as goal

pub returns : goal.returns
returns c = are-children c.self.inside.node c.args.self.now c.kids.result c.self.view_is c.kids.ensures
