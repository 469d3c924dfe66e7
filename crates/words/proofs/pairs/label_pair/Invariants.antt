use Rattle.std.proofs.Common.{take, drop, ◌≡◌}
use Rattle.words.specs.Pairs.{label_pair}
use Rattle.words.proofs.LabelLemmas.{label_from}
use Rattle.words.proofs.pairs.label_pair.Given as goal

abbrev pub invariant-loop-index : goal.invariant-loop-index
invariant-loop-index l = label_from l.escape l.state (take l.index l.word) (drop l.index l.word) ≡ label_pair l.escape l.word
