use Rattle.std.proofs.Common.{◌≡◌, drop, map}
use Rattle.words.specs.Pairs.{pair}
use Rattle.options.specs.Lists.{all_some}
use Rattle.options.proofs.ListLaws.{behind}
use Rattle.instructions.specs.PrivateLent.{lent_pairs, lent_texts}
use Rattle.instructions.proofs.env.pairs_among.Given as goal

abbrev pub invariant-loop-word : goal.invariant-loop-word
invariant-loop-word l = behind (lent_pairs l.pairs.items) (all_some (map pair (lent_texts (drop l.word-index l.words)))) ≡ all_some (map pair (lent_texts l.words))
