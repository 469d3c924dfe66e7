use Rattle.std.proofs.Common.{◌≡◌, Some, length}
use Rattle.serde_json.specs.Data.{Members}
use Rattle.strict.specs.Strict.{members_in}
use Rattle.borrowed.specs.Rows.{owned_rows}
use Rattle.borrowed.proofs.PulledFacts.{GoesOn}
use Rattle.entries.specs.Listing.{listing_in}
use Rattle.bundle.proofs.pulling.pull_caches.Given as goal

-- some members were found, and they are read as the rows that were made
abbrev pub invariant-loop-caches : goal.invariant-loop-caches
invariant-loop-caches g l = (found : Members) × GoesOn l.inner l.initial.reader l.reader found × (members_in listing_in found ≡ Some (owned_rows l.caches.entries))

abbrev pub decreases-loop-caches : goal.decreases-loop-caches
decreases-loop-caches g l = length l.reader
