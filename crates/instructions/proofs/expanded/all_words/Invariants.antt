use Rattle.std.proofs.Common.{◌≡◌, drop, map}
use Rattle.expand.specs.Word.{word}
use Rattle.options.specs.Lists.{all_some}
use Rattle.options.proofs.ListLaws.{behind}
use Rattle.instructions.specs.PrivateLent.{lent_texts}
use Rattle.instructions.proofs.expanded.all_words.Given as goal

abbrev pub invariant-loop-text : goal.invariant-loop-text
invariant-loop-text l = behind l.found (all_some (map (word l.kind l.escape) (lent_texts (drop l.text-index l.texts)))) ≡ all_some (map (word l.kind l.escape) (lent_texts l.texts))
