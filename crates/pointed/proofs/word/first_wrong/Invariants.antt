use Rattle.std.proofs.Common.{◌≡◌, map}
use Rattle.pointed.specs.Word.{first_wrong, is_wrong}
use Rattle.pointed.proofs.FirstFacts.{searched}
use Rattle.pointed.proofs.word.first_wrong.Given as goal

abbrev pub invariant-loop-index : goal.invariant-loop-index
invariant-loop-index l =
    searched (λ begun word. is_wrong l.subject word) (map (λ word. word.now) l.words) l.index ≡ first_wrong l.subject (map (λ word. word.now) l.words)
