use Rattle.std.proofs.Common.{[], refl}
use Rattle.trees.proofs.KidLists.{keys-from_sorted}
use Rattle.trees.proofs.FromSteps.{node-from}
use Rattle.trees.proofs.lent_node.LentNode.kids_from.Goals as goal

pub returns-in-None : goal.returns-in-None
returns-in-None c = node-from c.args.self.now [] c.none.result c.args.front.now c.in-None.ensures (keys-from_sorted [] refl) c.none.ensures

pub returns-in-Some : goal.returns-in-Some
returns-in-Some c = node-from c.args.self.now c.in-Some.kids c.iter_from.result c.args.front.now c.in-Some.ensures c.iter_from.ensures.ordered c.iter_from.ensures.from
