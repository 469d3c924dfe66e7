use Rattle.std.proofs.Common.{length}
use Rattle.globs.proofs.glob.+match_all.Given as goal

abbrev pub decreases-match_all : goal.decreases-match_all
decreases-match_all l = length l.components.now
