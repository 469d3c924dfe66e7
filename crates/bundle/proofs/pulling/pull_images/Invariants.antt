use Rattle.std.proofs.Common.{◌≡◌, Some, length}
use Rattle.serde_json.specs.Data.{Members}
use Rattle.strict.specs.Strict.{members_in}
use Rattle.borrowed.specs.Rows.{owned_rows}
use Rattle.borrowed.proofs.PulledFacts.{GoesOn}
use Rattle.bundle.specs.Parts.{image_in}
use Rattle.bundle.proofs.pulling.pull_images.Given as goal

-- some members were found, and they are read as the rows that were made
abbrev pub invariant-loop-images : goal.invariant-loop-images
invariant-loop-images g l = (found : Members) × GoesOn l.inner l.initial.reader l.reader found × (members_in (image_in g.C.FromLentKeyed.reading) found ≡ Some (owned_rows l.images.entries))

abbrev pub decreases-loop-images : goal.decreases-loop-images
decreases-loop-images g l = length l.reader
