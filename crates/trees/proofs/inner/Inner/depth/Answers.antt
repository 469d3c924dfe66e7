use Rattle.std.proofs.Common.{subst}
use Rattle.trees.specs.PrivateNode.{NodeValue, IsDepth}
use Rattle.trees.proofs.inner.Inner.depth.Goals as goal

pub returns : goal.returns
returns c = subst (λ (n : NodeValue). IsDepth c.self.inside.depth n.below) c.self.view_is c.self.invariant
