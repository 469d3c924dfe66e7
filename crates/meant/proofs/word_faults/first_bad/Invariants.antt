use Rattle.std.proofs.Common.{◌≡◌, drop, map}
use Rattle.std.specs.List.{find}
use Rattle.meant.specs.WordFaults.{is_bad_word}
use Rattle.meant.proofs.word_faults.first_bad.Given as goal

-- the words that are left decide
abbrev pub invariant-loop-word : goal.invariant-loop-word
invariant-loop-word l = find (is_bad_word l.escape) (map (λ word. word.now) (drop l.word-index l.words)) ≡ find (is_bad_word l.escape) (map (λ word. word.now) l.words)
