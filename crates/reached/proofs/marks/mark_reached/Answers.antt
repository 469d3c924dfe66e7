use Rattle.std.proofs.Common.{arith, refl, true, false, slice_set, ◌<◌, ◌-◌, length, subst, sym, ap, ◌∙◌}
use Rattle.std.specs.List.{All}
use Rattle.std.proofs.lemmas.List.{get_or_read}
use Rattle.std.proofs.lemmas.Option.{slice_get_read}
use Rattle.std.specs.Vec.{vec_len}
use Rattle.llb.specs.declared.vertex.Vertex.{Vertex}
use Rattle.reached.specs.Reached.{AreReached}
use Rattle.plain.proofs.MarkFacts.{unmarked_step, marked_all}
use Rattle.reached.proofs.MarkFacts.{reached, target_marked, inputs_marked, inputs_inside}
use Rattle.reached.proofs.marks.mark_reached.Goals as goal

pub loop-at-init : goal.loop-at-init
loop-at-init c = target_marked _ _ c.in_ok-marks.marks.items _ _ c.in_ok-marks.ensures.long c.in_ok-marks.ensures.none c.requires.target
    (ap (λ n. slice_set c.in_ok-marks.marks.items n true) c.index.ensures) refl

pub mark-requires : goal.mark-requires
mark-requires c =
    let at : c.loop-at.at - 1 < length c.args.vertices.now = omega (arith, c.loop-at.invariant.within, c.loop-at-test.true) in
    let there = slice_get_read c.args.vertices.now _ (c.loop-at.at - 1) c.index-vertices-at.result refl at c.index-vertices-at.is in
    let same = c.as_slice.ensures ∙ ap (λ (v : Vertex). v.inputs) (sym c.index-vertices-at.is) in
    subst (All (λ i. i < vec_len c.loop-at.marks)) (sym same)
    (inputs_inside c.args.vertices.now (c.loop-at.at - 1) (vec_len c.loop-at.marks) c.index-vertices-at.result c.requires.vertices.after there
    (omega (arith, c.loop-at.invariant.long, c.loop-at.marks.ok.0)))

pub loop-at-preserved-then-index : goal.loop-at-preserved-then-index
loop-at-preserved-then-index c =
    let at : c.loop-at.at - 1 < length c.args.vertices.now = omega (arith, c.loop-at.invariant.within, c.loop-at-test.true) in
    let in_marks : c.loop-at.at - 1 < length c.loop-at.marks.items = omega (arith, at, c.loop-at.invariant.long) in
    let there = slice_get_read c.args.vertices.now _ (c.loop-at.at - 1) c.index-vertices-at.result refl at c.index-vertices-at.is in
    let same = c.as_slice.ensures ∙ ap (λ (v : Vertex). v.inputs) (sym c.index-vertices-at.is) in
    let marked = sym (get_or_read c.loop-at.marks.items _ _ in_marks c.index-in-loop-at.ensures false) ∙ c.if-index.true in
    inputs_marked _ _ c.loop-at.at _ c.index-vertices-at.result _ _ _ c.requires.vertices.after c.loop-at.invariant c.loop-at-test.true refl there marked same
    c.mark.ensures

pub loop-at-preserved : goal.loop-at-preserved
loop-at-preserved c =
    let in_marks : c.loop-at.at - 1 < length c.loop-at.marks.items =
    omega (arith, c.loop-at.invariant.within, c.loop-at-test.true, c.loop-at.invariant.long) in
    let unmarked = sym (get_or_read c.loop-at.marks.items _ _ in_marks c.index-in-loop-at.ensures false) ∙ c.if-index.false in
    unmarked_step _ _ _ c.loop-at.at _ _ c.loop-at.invariant c.loop-at-test.true refl unmarked

pub returns : goal.returns
returns c = subst (AreReached c.args.vertices.now c.args.target) (sym c.from_vec.ensures)
    (reached _ _ _ (marked_all _ _ _ c.loop-at.at _ c.loop-at.invariant c.loop-at-test.false))
