use Rattle.std.proofs.Common.{length}
use Rattle.serde_json.specs.Data.{Members}
use Rattle.borrowed.proofs.PulledFacts.{GoesOn}
use Rattle.entries.specs.PrivateKeys.{Spells}
use Rattle.entries.proofs.pulling.pull_spelled.Given as goal

-- some members were found, and these are their values
abbrev pub invariant-loop-key : goal.invariant-loop-key
invariant-loop-key l = (found : Members) × GoesOn l.inner l.initial.reader l.reader found × Spells l.spelled found

abbrev pub decreases-loop-key : goal.decreases-loop-key
decreases-loop-key l = length l.reader
