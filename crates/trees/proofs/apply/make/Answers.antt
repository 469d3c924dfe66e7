use Rattle.std.proofs.Common.{◌∙◌, ap, not}
use Rattle.trees.proofs.CopySteps.{make-new, make-new-tree, make-kept}
use Rattle.trees.proofs.apply.make.Goals as goal

pub returns-in_ok-plant-in-Ok-true-clause-result : goal.returns-in_ok-plant-in-Ok-true-clause-result
returns-in_ok-plant-in-Ok-true-clause-result c = make-new _ _ _ _ c.components-parts.result.now c.components-parts.ensures.value c.in-Ok-true.ensures.cause (c.in-Ok-true.ensures.there ∙ ap not c.in-Ok-true.field-0-test) c.in_ok-plant-in-Ok-true.ensures.ok

pub returns-in_ok-plant-in-Ok-true-clause-tree : goal.returns-in_ok-plant-in-Ok-true-clause-tree
returns-in_ok-plant-in-Ok-true-clause-tree c =
    make-new-tree _ _ _ c.args.path.now c.components-parts.result.now c.components-parts.ensures.value c.requires c.components-parts.ensures.clean c.in-Ok-true.ensures.cause (c.in-Ok-true.ensures.there ∙ ap not c.in-Ok-true.field-0-test) c.in_ok-plant-in-Ok-true.ensures.ok

pub returns-in-Ok-false-clause-result : goal.returns-in-Ok-false-clause-result
returns-in-Ok-false-clause-result c = make-kept _ _ _ c.components-parts.result.now c.components-parts.ensures.value c.requires c.in-Ok-false.ensures.cause (c.in-Ok-false.ensures.there ∙ ap not c.in-Ok-false.field-0-test)
