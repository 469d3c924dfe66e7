use Rattle.std.proofs.Common.{subst, sym, ap, ◌∙◌, ◌++◌, ◌∷◌, [], take}
use Rattle.std.proofs.lemmas.List.{take_more}
use Rattle.plain.specs.PrivateMarks.{MarksMore}
use Rattle.stages.specs.PrivateMarks.{HasStage}
use Rattle.stages.proofs.MarkFacts.{both_marked}
use Rattle.stages.proofs.marks.mark.Goals as goal

pub loop-origin-preserved : goal.loop-origin-preserved
loop-origin-preserved c =
    let more = take_more c.args.origins.now c.loop-origin.origin-index c.origin-item.result c.loop-origin-test.true
    ∙ ap (λ o. take c.loop-origin.origin-index c.args.origins.now ++ o ∷ []) (sym c.origin-item.is) in
    subst (λ os. MarksMore c.args.marks.now.items c.mark_one.new.marks.items (HasStage os)) (sym more)
    (both_marked _ _ _ (take c.loop-origin.origin-index c.args.origins.now) (c.origin-item.result ∷ []) c.loop-origin.invariant c.mark_one.ensures)
