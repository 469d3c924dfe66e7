use Rattle.std.proofs.Common.{None}
use Rattle.trees.proofs.NodeSteps.{get-kid, at-kid}
use Rattle.trees.proofs.lent_node.LentNode.+node_at.Goals as goal

pub returns-in-Some : goal.returns-in-Some
returns-in-Some t c = at-kid c.args.self.now c.args.path.now c.name-item.result c.in-Some.kid c.node_at.result c.in-len1-up.len_at_least c.name-item.is c.in-Some.ensures c.node_at.ensures

pub returns-in-None : goal.returns-in-None
returns-in-None t c = get-kid c.args.self.now c.args.path.now c.name-item.result None c.in-len1-up.len_at_least c.name-item.is c.in-None.ensures
