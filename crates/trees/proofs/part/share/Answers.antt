use Rattle.std.proofs.Common.{ap, ◌∙◌, ◌++◌, ◌+◌, drop}
use Rattle.trees.specs.PrivateNode.{lists_of}
use Rattle.trees.proofs.PartSteps.{share-step}
use Rattle.trees.proofs.part.share.Goals as goal

pub loop-part-preserved : goal.loop-part-preserved
loop-part-preserved c =
    ap (λ is. lists_of is ++ lists_of (drop (c.loop-part.part-index + 1) c.args.parts.now)) c.in_ok-push.ensures.items
    ∙ share-step c.loop-part.shared.items c.args.parts.now c.loop-part.part-index c.in_ok-try_clone.field-0 c.part-item.result c.loop-part.invariant c.loop-part-test.true c.part-item.is c.in_ok-try_clone.ensures
