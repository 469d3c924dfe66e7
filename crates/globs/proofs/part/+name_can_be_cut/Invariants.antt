use Rattle.std.proofs.Common.{length}
use Rattle.globs.proofs.part.+name_can_be_cut.Given as goal

abbrev pub decreases-name_can_be_cut : goal.decreases-name_can_be_cut
decreases-name_can_be_cut l = length l.parts.now
