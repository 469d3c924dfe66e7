use Rattle.std.proofs.Common.{length}
use Rattle.globs.proofs.cut.+can_be_cut.Given as goal

abbrev pub decreases-can_be_cut : goal.decreases-can_be_cut
decreases-can_be_cut g l = length l.parts.now
