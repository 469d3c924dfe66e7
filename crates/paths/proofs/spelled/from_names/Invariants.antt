use Rattle.std.proofs.Common.{length}
use denote.Text.{Utf8}
use denote.Shadow.{shadow}
use Rattle.paths.specs.Reading.{pieces}
use Rattle.paths.proofs.SpelledLaws.{AreTaken}
use Rattle.paths.proofs.spelled.from_names.Given as goal

-- the pieces before the rest are taken as components
abbrev pub invariant-loop-piece : goal.invariant-loop-piece
invariant-loop-piece l = shadow (Utf8 l.rest) × AreTaken l.parts.items (pieces l.rest) l.names

abbrev pub decreases-loop-piece : goal.decreases-loop-piece
decreases-loop-piece l = length l.rest
