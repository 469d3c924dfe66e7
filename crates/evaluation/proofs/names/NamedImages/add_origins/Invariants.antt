use Rattle.std.proofs.Common.{◌≡◌, drop}
use Rattle.evaluation.specs.Images.{with_origins}
use Rattle.evaluation.proofs.names.NamedImages.add_origins.Given as goal

abbrev pub invariant-loop-origin : goal.invariant-loop-origin
invariant-loop-origin l = with_origins l.self (drop l.origin-index l.origins) ≡ with_origins l.initial.self l.origins
