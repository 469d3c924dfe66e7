use Rattle.std.proofs.Common.{length}
use Rattle.trees.proofs.node.Node.+chain.Given as goal

abbrev pub decreases-chain : goal.decreases-chain
decreases-chain l = length l.path.now
