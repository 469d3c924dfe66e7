use Rattle.std.proofs.Common.{length}
use Rattle.trees.proofs.spine.+open_down.Given as goal

abbrev pub decreases-open_down : goal.decreases-open_down
decreases-open_down l = length l.rest.now
