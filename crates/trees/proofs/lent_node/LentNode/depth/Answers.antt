use Rattle.std.proofs.Common.{subst}
use Rattle.trees.specs.PrivateNode.{NodeValue, IsDepth}
use Rattle.trees.proofs.SeenSteps.{depth-seen}
use Rattle.trees.proofs.lent_node.LentNode.depth.Goals as goal

pub returns : goal.returns
returns c = subst (λ (n : NodeValue). IsDepth c.depth.result n.below) c.self.view_is (depth-seen c.self.inside.options c.depth.result c.self.inside.node.now.below c.depth.ensures)
