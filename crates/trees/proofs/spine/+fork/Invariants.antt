use Rattle.std.proofs.Common.{length}
use Rattle.trees.proofs.spine.+fork.Given as goal

abbrev pub decreases-fork : goal.decreases-fork
decreases-fork l = length l.path.now
