use Rattle.std.proofs.Common.{arith, refl, false, ◌<◌, ◌-◌, length, subst, sym, ◌∙◌}
use Rattle.std.proofs.lemmas.List.{get_or_read}
use Rattle.std.proofs.lemmas.Option.{slice_get_read}
use Rattle.plain.proofs.MarkFacts.{unmarked_step}
use Rattle.stages.specs.Needed.{AreNeeded}
use Rattle.stages.proofs.MarkFacts.{target_marked, named_marked, all_needed}
use Rattle.stages.proofs.marks.mark_needed.Goals as goal

pub loop-at-init : goal.loop-at-init
loop-at-init c = target_marked _ _ c.in_ok-marks.marks.items _ _ c.in_ok-marks.ensures.long c.in_ok-marks.ensures.none c.requires.target
    refl refl

pub loop-at-preserved-then-index : goal.loop-at-preserved-then-index
loop-at-preserved-then-index c =
    let at : c.loop-at.at - 1 < length c.args.stages.now = omega (arith, c.loop-at.invariant.within, c.loop-at-test.true) in
    let in_marks : c.loop-at.at - 1 < length c.loop-at.marks.items = omega (arith, at, c.loop-at.invariant.long) in
    let there = slice_get_read c.args.stages.now _ (c.loop-at.at - 1) c.index-stages-at.result refl at c.index-stages-at.is in
    let marked = sym (get_or_read c.loop-at.marks.items _ _ in_marks c.index.ensures false) ∙ c.if-index.true in
    named_marked _ _ c.loop-at.at _ c.index-stages-at.result _ _ c.requires.stages c.loop-at.invariant c.loop-at-test.true refl there marked
    c.mark_stage.ensures

pub loop-at-preserved : goal.loop-at-preserved
loop-at-preserved c =
    let in_marks : c.loop-at.at - 1 < length c.loop-at.marks.items =
    omega (arith, c.loop-at.invariant.within, c.loop-at-test.true, c.loop-at.invariant.long) in
    let unmarked = sym (get_or_read c.loop-at.marks.items _ _ in_marks c.index.ensures false) ∙ c.if-index.false in
    unmarked_step _ _ _ c.loop-at.at _ _ c.loop-at.invariant c.loop-at-test.true refl unmarked

pub returns : goal.returns
returns c = subst (AreNeeded c.args.stages.now c.args.target) (sym c.from_vec.ensures)
    (all_needed _ _ c.loop-at.at _ c.loop-at.invariant c.loop-at-test.false)
