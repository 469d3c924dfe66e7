use Rattle.std.proofs.Common.{length}
use Rattle.entries.specs.PrivateKeys.{Reads}
use Rattle.entries.proofs.pulling.read_batch.Given as goal

-- these are the items so far
abbrev pub invariant-reading : goal.invariant-reading
invariant-reading l = Reads l.inner l.initial.reader l.read.items l.reader

abbrev pub decreases-reading : goal.decreases-reading
decreases-reading l = length l.reader
