use Rattle.std.proofs.Common.{subst, sym, ap, ◌∙◌, ◌++◌, ◌∷◌, [], take}
use Rattle.std.proofs.lemmas.List.{take_more}
use Rattle.plain.specs.PrivateMarks.{MarksMore}
use Rattle.stages.specs.Needed.{origins_in}
use Rattle.stages.specs.PrivateMarks.{HasStage}
use Rattle.stages.proofs.MarkFacts.{both_marked, origins_in-push}
use Rattle.stages.proofs.marks.mark_named.Goals as goal

pub loop-resolved-preserved : goal.loop-resolved-preserved
loop-resolved-preserved c =
    let before = take c.loop-resolved.resolved-index c.args.instructions.now in
    let more = take_more c.args.instructions.now c.loop-resolved.resolved-index c.resolved-item.result c.loop-resolved-test.true
    ∙ ap (λ r. take c.loop-resolved.resolved-index c.args.instructions.now ++ r ∷ []) (sym c.resolved-item.is) in
    let marked = subst (λ os. MarksMore c.loop-resolved.marks.items c.mark.new.marks.items (HasStage os)) c.as_slice.ensures c.mark.ensures in
    subst (λ os. MarksMore c.args.marks.now.items c.mark.new.marks.items (HasStage os)) (sym (ap origins_in more ∙ origins_in-push before c.resolved-item.result))
    (both_marked _ _ _ (origins_in before) c.resolved-item.result.origins c.loop-resolved.invariant marked)
