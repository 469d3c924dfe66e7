use Rattle.std.proofs.Common.{◌∙◌, sym, ap, Some, None}
use Rattle.trees.proofs.NodeSteps.{get-own, get-kid}
use Rattle.trees.proofs.lent_node.LentNode.+find.Goals as goal

pub returns-in-empty : goal.returns-in-empty
returns-in-empty t c = ap Some c.entry.ensures ∙ sym (get-own c.args.self.now c.args.path.now c.in-empty.len_below)

pub returns-in-Some : goal.returns-in-Some
returns-in-Some t c = c.find.ensures ∙ sym (get-kid c.args.self.now c.args.path.now c.name-item.result (Some c.in-Some.kid) c.in-len1-up.len_at_least c.name-item.is c.in-Some.ensures)

pub returns-in-None : goal.returns-in-None
returns-in-None t c = sym (get-kid c.args.self.now c.args.path.now c.name-item.result None c.in-len1-up.len_at_least c.name-item.is c.in-None.ensures)
