use Rattle.std.proofs.Common.{◌≡◌, ◌++◌, drop, filter, map}
use Rattle.meant.specs.WordFaults.{has_sign}
use Rattle.meant.proofs.word_faults.with_sign.Given as goal

-- the words so far with those that are left and have the sign are all
abbrev pub invariant-loop-word : goal.invariant-loop-word
invariant-loop-word l =
    map (λ word. word.now) l.found.items ++ filter (has_sign l.sign) (map (λ word. word.now) (drop l.word-index l.words)) ≡ filter (has_sign l.sign) (map (λ word. word.now) l.words)
