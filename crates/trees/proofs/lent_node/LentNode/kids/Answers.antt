use Rattle.std.proofs.Common.{[], refl}
use Rattle.trees.proofs.KidLists.{keys-from_sorted}
use Rattle.trees.proofs.RowLists.{kids-rows}
use Rattle.trees.proofs.lent_node.LentNode.kids.Goals as goal

pub returns-in-None : goal.returns-in-None
returns-in-None c = kids-rows c.args.self.now [] c.none.result c.in-None.ensures c.none.ensures (keys-from_sorted [] refl)

pub returns-in-Some : goal.returns-in-Some
returns-in-Some c = kids-rows c.args.self.now c.in-Some.kids c.iter.result c.in-Some.ensures c.iter.ensures.all c.iter.ensures.ordered
