use Rattle.std.proofs.Common.{drop, ◌≡◌, ◌++◌, List}
use Rattle.std.specs.Prelude.{option_map}
use Rattle.expand.specs.PrivatePieces.{Piece, tokens}
use Rattle.expand.specs.PrivateOutput.{made}
use Rattle.expand.specs.PrivateReading.{pieces_from, pieces}
use Rattle.expand.proofs.reading.read.Given as goal

abbrev pub invariant-loop-character : goal.invariant-loop-character
invariant-loop-character l =
    option_map (λ (ps : List Piece). made l.output ++ tokens ps) (pieces_from l.reading.depth l.reading.begun (drop l.character-index l.characters)) ≡ option_map tokens (pieces l.characters)
