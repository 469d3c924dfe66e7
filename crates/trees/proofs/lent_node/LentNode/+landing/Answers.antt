use Rattle.std.proofs.Common.{◌∙◌, sym}
use Rattle.trees.proofs.NodeSteps.{lands-own, lands-blocked, lands-kid, lands-nowhere}
use Rattle.trees.proofs.lent_node.LentNode.+landing.Goals as goal

pub returns-in-empty : goal.returns-in-empty
returns-in-empty t c = lands-own c.args.self.now c.args.path.now c.entry.result c.in-empty.len_below c.entry.ensures

pub returns-then-not-is_directory : goal.returns-then-not-is_directory
returns-then-not-is_directory t c = lands-blocked c.args.self.now c.args.path.now c.name-item.result c.in-len1-up.len_at_least c.name-item.is (sym c.is_directory.ensures ∙ c.if-not-is_directory.true)

pub returns-in-Some : goal.returns-in-Some
returns-in-Some t c =
    lands-kid c.args.self.now c.args.path.now c.name-item.result c.in-Some.kid c.landing.result c.in-len1-up.len_at_least c.name-item.is (sym c.is_directory.ensures ∙ c.if-not-is_directory.false) c.in-Some.ensures c.landing.ensures

pub returns-in-None : goal.returns-in-None
returns-in-None t c = lands-nowhere c.args.self.now c.args.path.now c.name-item.result c.in-len1-up.len_at_least c.name-item.is (sym c.is_directory.ensures ∙ c.if-not-is_directory.false) c.in-None.ensures
