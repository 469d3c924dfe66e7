use Rattle.std.proofs.Common.{length, ◌+◌}
use Rattle.std.specs.Str.{chars}
use Rattle.globs.proofs.part.+search.Given as goal

abbrev pub decreases-search : goal.decreases-search
decreases-search l = length l.parts.now + length (chars l.name.now)
