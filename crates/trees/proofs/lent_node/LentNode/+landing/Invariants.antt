use Rattle.std.proofs.Common.{length}
use Rattle.trees.proofs.lent_node.LentNode.+landing.Given as goal

abbrev pub decreases-landing : goal.decreases-landing
decreases-landing l = length l.path.now
