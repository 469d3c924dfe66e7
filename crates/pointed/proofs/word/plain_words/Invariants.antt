use Rattle.std.proofs.Common.{map}
use Rattle.pointed.specs.Word.{is_plain}
use Rattle.pointed.proofs.WordFacts.{IsFront}
use Rattle.pointed.proofs.word.plain_words.Given as goal

abbrev pub invariant-loop-index : goal.invariant-loop-index
invariant-loop-index l = IsFront is_plain (map (λ piece. piece.now) l.pieces) l.index
