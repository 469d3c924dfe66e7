use Rattle.std.proofs.Common.{length}
use Rattle.bundle.specs.Parts.{images_of}
use Rattle.bundle.proofs.RestFacts.{IsRest}
use Rattle.bundle.proofs.parts.images_of.Given as goal

abbrev pub decreases-loop-name : goal.decreases-loop-name
decreases-loop-name g l = length l.left.items

-- the rows behind those that are left are inserted
abbrev pub invariant-loop-name : goal.invariant-loop-name
invariant-loop-name g l = IsRest images_of l.fn.rows l.left.items l.images
