use Rattle.std.proofs.Common.{◌∙◌, ap}
use Rattle.std.specs.Arc.{arc_value}
use Rattle.trees.specs.declared.copy.CopyOptions.{CopyOptions}
use Rattle.trees.specs.PrivateSeen.{seen}
use Rattle.trees.proofs.SeenSteps.{seen-keeping}
use Rattle.trees.proofs.node.Node.of_inner.Goals as goal

pub returns : goal.returns
returns c = ap (λ (o : CopyOptions). seen o (arc_value c.in_ok-shared.shared)) c.keeping.ensures ∙ seen-keeping (arc_value c.in_ok-shared.shared) ∙ c.in_ok-shared.ensures.ok
