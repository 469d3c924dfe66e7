use Rattle.std.proofs.Common.{◌≡◌, drop, map}
use Rattle.std.specs.List.{find}
use Rattle.meant.specs.WordFaults.{has_bad_name}
use Rattle.meant.proofs.word_faults.bad_name_fault.Given as goal

-- the words that are left decide
abbrev pub invariant-loop-word : goal.invariant-loop-word
invariant-loop-word l = find has_bad_name (map (λ word. word.now) (drop l.word-index l.words)) ≡ find has_bad_name (map (λ word. word.now) l.words)
