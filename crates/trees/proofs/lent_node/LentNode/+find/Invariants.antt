use Rattle.std.proofs.Common.{length}
use Rattle.trees.proofs.lent_node.LentNode.+find.Given as goal

abbrev pub decreases-find : goal.decreases-find
decreases-find l = length l.path.now
