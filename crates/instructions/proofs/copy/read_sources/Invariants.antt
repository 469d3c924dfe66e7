use Rattle.std.proofs.Common.{◌≡◌, drop}
use Rattle.instructions.specs.Copy.{sources}
use Rattle.options.specs.Lists.{all_some}
use Rattle.options.proofs.ListLaws.{behind}
use Rattle.instructions.specs.PrivateLent.{lent_texts}
use Rattle.instructions.proofs.copy.read_sources.Given as goal

abbrev pub invariant-loop-text : goal.invariant-loop-text
invariant-loop-text l = behind l.found (all_some (sources l.is_list l.escape l.left (lent_texts (drop l.text-index l.texts)))) ≡ all_some (sources l.is_list l.escape l.heredocs (lent_texts l.texts))
