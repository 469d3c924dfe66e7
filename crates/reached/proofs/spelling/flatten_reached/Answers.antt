use Rattle.std.proofs.Common.{◌≡◌, ◌<◌, ◌-◌, false, true, arith, refl, sym, ap, ◌∙◌, subst, length, slice_set}
use Rattle.std.specs.List.{All}
use Rattle.std.proofs.lemmas.List.{get_or_read}
use Rattle.std.specs.Vec.{vec_len}
use Rattle.reached.specs.Spelled.{flat_vertex, flat_vertices}
use Rattle.reached.proofs.FlatFacts.{as_many, flat_there, flat_after, front_vertices, flat_begun, flat_before, flat_inside, flat_here, flat_alike, flat_put, flat_left, flat_done}
use Rattle.reached.proofs.MarkFacts.{inputs_inside}
use Rattle.reached.proofs.spelling.flatten_reached.Goals as goal

pub loop-at-init : goal.loop-at-init
loop-at-init c =
    flat_begun c.args.vertices _ c.len-at.result c.in_ok-marks.marks.items _ _ (c.in_ok-marks.ensures.long ∙ c.len.ensures) c.in_ok-marks.ensures.none
    c.requires.target (ap (λ n. slice_set c.in_ok-marks.marks.items n true) c.index.ensures) c.into_vec-vertices.ensures
    (omega (arith, c.len-at.ensures, c.into_vec-vertices.result.ok.0))

pub index-requires-in-loop-at : goal.index-requires-in-loop-at
index-requires-in-loop-at c =
    omega (arith, c.loop-at.invariant.marked.within, c.loop-at.invariant.marked.long, c.loop-at-test.true, c.loop-at.marks.ok.0)

pub slice_bounds-flat_inputs-end : goal.slice_bounds-flat_inputs-end
slice_bounds-flat_inputs-end c =
    sym (flat_before c.args.vertices _ c.loop-at.at (c.loop-at.at - 1) _ c.loop-at.vertices.items _ c.deref.result.now c.loop-at.invariant c.loop-at-test.true
    refl c.deref.ensures.value refl).long

pub index-requires-then-index : goal.index-requires-then-index
index-requires-then-index c =
    let inside = flat_inside c.args.vertices _ c.loop-at.at (c.loop-at.at - 1) _ c.loop-at.vertices.items c.loop-at.invariant c.loop-at-test.true refl in
    omega (arith, inside, c.loop-at.vertices.ok.0)

pub flat_inputs-requires-clause-vertices : goal.flat_inputs-requires-clause-vertices
flat_inputs-requires-clause-vertices c =
    front_vertices c.args.vertices _ (c.loop-at.at - 1) c.requires.vertices
    (flat_before c.args.vertices _ c.loop-at.at (c.loop-at.at - 1) _ c.loop-at.vertices.items _ c.deref.result.now c.loop-at.invariant c.loop-at-test.true
    refl c.deref.ensures.value refl)

pub flat_inputs-requires-clause-inside : goal.flat_inputs-requires-clause-inside
flat_inputs-requires-clause-inside c =
    let front = flat_before c.args.vertices _ c.loop-at.at (c.loop-at.at - 1) _ c.loop-at.vertices.items _ c.deref.result.now c.loop-at.invariant
    c.loop-at-test.true refl c.deref.ensures.value refl in
    let there = flat_here c.args.vertices _ c.loop-at.at (c.loop-at.at - 1) _ c.loop-at.vertices.items c.index-then-index.result.now c.loop-at.invariant
    c.loop-at-test.true refl c.index-then-index.ensures in
    inputs_inside c.args.vertices (c.loop-at.at - 1) _ c.index-then-index.result.now c.requires.vertices.after there (omega (arith, front.long))

pub mark-requires : goal.mark-requires
mark-requires c =
    let vs = c.args.vertices in
    let all = as_many vs in
    let front = flat_before vs _ c.loop-at.at (c.loop-at.at - 1) _ c.loop-at.vertices.items _ c.deref.result.now c.loop-at.invariant c.loop-at-test.true refl
    c.deref.ensures.value refl in
    let v = c.index-then-index.result.now in
    let there = flat_here vs _ c.loop-at.at (c.loop-at.at - 1) _ c.loop-at.vertices.items v c.loop-at.invariant c.loop-at-test.true refl
    c.index-then-index.ensures in
    let same : c.as_slice.result.now ≡ (flat_vertex vs v).inputs =
    c.as_slice.ensures ∙ (c.in_ok-inputs.ensures ∙ flat_alike vs _ (c.loop-at.at - 1) v c.requires.vertices front there) in
    subst (All (λ i. i < vec_len c.loop-at.marks)) (sym same)
    (inputs_inside (flat_vertices vs) (c.loop-at.at - 1) (vec_len c.loop-at.marks) (flat_vertex vs v) (flat_after vs c.requires.vertices)
    (flat_there vs (c.loop-at.at - 1) v there)
    (omega (arith, c.loop-at.invariant.marked.within, c.loop-at.invariant.marked.long, c.loop-at.marks.ok.0)))

pub index_mut-requires-then-index : goal.index_mut-requires-then-index
index_mut-requires-then-index c =
    let inside = flat_inside c.args.vertices _ c.loop-at.at (c.loop-at.at - 1) _ c.loop-at.vertices.items c.loop-at.invariant c.loop-at-test.true refl in
    omega (arith, inside, c.loop-at.vertices.ok.0)

pub loop-at-preserved-then-index : goal.loop-at-preserved-then-index
loop-at-preserved-then-index c =
    let vs = c.args.vertices in
    let in_marks : c.loop-at.at - 1 < length c.loop-at.marks.items =
    omega (arith, c.loop-at.invariant.marked.within, c.loop-at-test.true, c.loop-at.invariant.marked.long) in
    let front = flat_before vs _ c.loop-at.at (c.loop-at.at - 1) _ c.loop-at.vertices.items _ c.deref.result.now c.loop-at.invariant c.loop-at-test.true refl
    c.deref.ensures.value refl in
    let there = flat_here vs _ c.loop-at.at (c.loop-at.at - 1) _ c.loop-at.vertices.items c.index-then-index.result.now c.loop-at.invariant
    c.loop-at-test.true refl c.index-then-index.ensures in
    let there_mut = flat_here vs _ c.loop-at.at (c.loop-at.at - 1) _ c.loop-at.vertices.items c.index_mut-then-index.result.now c.loop-at.invariant
    c.loop-at-test.true refl c.index_mut-then-index.ensures.value in
    let marked = sym (get_or_read c.loop-at.marks.items _ _ in_marks c.index-in-loop-at.ensures false) ∙ c.if-index.true in
    flat_put vs _ c.loop-at.at (c.loop-at.at - 1) _ _ c.loop-at.vertices.items _ _ c.index-then-index.result.now c.index_mut-then-index.result.now
    c.in_ok-inputs.inputs c.as_slice.result.now c.requires.vertices c.loop-at.invariant c.loop-at-test.true refl there there_mut marked front
    c.in_ok-inputs.ensures c.as_slice.ensures c.mark.ensures refl

pub loop-at-preserved : goal.loop-at-preserved
loop-at-preserved c =
    let in_marks : c.loop-at.at - 1 < length c.loop-at.marks.items =
    omega (arith, c.loop-at.invariant.marked.within, c.loop-at-test.true, c.loop-at.invariant.marked.long) in
    let unmarked = sym (get_or_read c.loop-at.marks.items _ _ in_marks c.index-in-loop-at.ensures false) ∙ c.if-index.false in
    flat_left c.args.vertices _ c.loop-at.at (c.loop-at.at - 1) _ c.loop-at.vertices.items c.loop-at.invariant c.loop-at-test.true refl unmarked

pub returns : goal.returns
returns c =
    rw (c.from_vec-marks.ensures, c.from_vec-vertices.ensures)
    (flat_done c.args.vertices c.args.target c.loop-at.at c.loop-at.marks.items c.loop-at.vertices.items c.loop-at.invariant c.loop-at-test.false)
