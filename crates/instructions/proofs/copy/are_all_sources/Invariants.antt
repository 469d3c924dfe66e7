use Rattle.std.proofs.Common.{◌≡◌, drop}
use Rattle.instructions.specs.Copy.{are_all_sources}
use Rattle.instructions.specs.PrivateLent.{lent_texts}
use Rattle.instructions.proofs.copy.are_all_sources.Given as goal

abbrev pub invariant-loop-text : goal.invariant-loop-text
invariant-loop-text l = are_all_sources l.left (lent_texts (drop l.text-index l.texts)) ≡ are_all_sources l.heredocs (lent_texts l.texts)
