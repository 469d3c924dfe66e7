use Rattle.std.proofs.Common.{ℕ, List, ◌++◌, drop}
use Rattle.reasons.specs.Reasons.{AreReasons}
use Rattle.reasons.proofs.telling.tell_all.Given as goal

-- what is told so far stands before what is told of the words that are left
abbrev pub invariant-loop-word : goal.invariant-loop-word
invariant-loop-word l = (rest : List ℕ) → AreReasons l.file (drop l.word-index l.words) rest → AreReasons l.file l.words (l.told.items ++ rest)
