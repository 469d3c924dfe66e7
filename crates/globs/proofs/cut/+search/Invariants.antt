use Rattle.std.proofs.Common.{length, ◌+◌}
use Rattle.globs.proofs.cut.+search.Given as goal

abbrev pub decreases-search : goal.decreases-search
decreases-search g l = length l.parts.now + length l.items.now
