use Rattle.std.proofs.Common.{length}
use Rattle.ignorefile.proofs.line.+may_reach.Given as goal

abbrev pub decreases-may_reach : goal.decreases-may_reach
decreases-may_reach l = length l.segments.now
