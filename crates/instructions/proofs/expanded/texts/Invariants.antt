use Rattle.std.proofs.Common.{◌≡◌, ◌++◌, drop}
use Rattle.instructions.specs.PrivateLent.{lent_texts}
use Rattle.instructions.proofs.expanded.texts.Given as goal

abbrev pub invariant-loop-string : goal.invariant-loop-string
invariant-loop-string l = lent_texts l.texts.items ++ drop l.string-index l.string-items ≡ l.string-items
