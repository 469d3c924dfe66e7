use Rattle.std.proofs.Common.{length}
use Rattle.serde_json.specs.Data.{Members}
use Rattle.borrowed.proofs.PulledFacts.{GoesOn}
use Rattle.bundle.specs.PrivatePulled.{Finds}
use Rattle.bundle.proofs.pulling.pull_bundle.Given as goal

-- some members were found, and these are their values, or what they are read as
abbrev pub invariant-loop-found : goal.invariant-loop-found
invariant-loop-found g l = (members : Members) × GoesOn l.inner l.initial.reader l.reader members × Finds g.C.FromLentKeyed.reading l.found members

abbrev pub decreases-loop-found : goal.decreases-loop-found
decreases-loop-found g l = length l.reader
