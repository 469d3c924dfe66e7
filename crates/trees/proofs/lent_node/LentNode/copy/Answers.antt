use Rattle.std.proofs.Common.{◌≡◌, subst}
use Rattle.std.specs.Prelude.{IfOk}
use Rattle.trees.specs.PrivateNode.{NodeValue}
use Rattle.trees.proofs.lent_node.LentNode.copy.Goals as goal

pub returns : goal.returns
returns c = subst (λ (v : NodeValue). IfOk c.placed.result (λ n. n ≡ v)) c.self.view_is c.placed.ensures
