use Rattle.std.proofs.Common.{◌≡◌, map}
use Rattle.std.specs.Prelude.{bytes_eq}
use Rattle.pointed.specs.Pointing.{number_of_word}
use Rattle.pointed.proofs.FirstFacts.{searched}
use Rattle.pointed.proofs.pointing.number_of_word.Given as goal

abbrev pub invariant-loop-index : goal.invariant-loop-index
invariant-loop-index l =
    searched (λ begun piece. bytes_eq piece l.word) (map (λ piece. piece.now) l.pieces) l.index ≡ number_of_word l.word (map (λ piece. piece.now) l.pieces)
