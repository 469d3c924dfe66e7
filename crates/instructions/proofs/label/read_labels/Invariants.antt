use Rattle.std.proofs.Common.{◌≡◌, drop}
use Rattle.options.proofs.ListLaws.{behind}
use Rattle.instructions.specs.Label.{labels_of}
use Rattle.instructions.specs.PrivateLent.{lent_pairs}
use Rattle.instructions.proofs.label.read_labels.Given as goal

abbrev pub invariant-loop-pair : goal.invariant-loop-pair
invariant-loop-pair l = behind l.found (labels_of l.escape (lent_pairs (drop l.pair-index l.pairs))) ≡ labels_of l.escape (lent_pairs l.pairs)
