use Rattle.std.proofs.Common.{◌*◌, sym, subst, ◌∙◌, length}
use Rattle.std.specs.List.{All}
use Rattle.rows.specs.WellFormed.{HasTree, RowNames, IsWellFormed, count_of_steps}
use Rattle.lowering.specs.PrivateRoom.{RoomFor}
use Rattle.lowering.specs.PrivateGrowth.{no_graph, AreInside, HasTip, IsRowPut, AreRowsPut}
use Rattle.lowering.proofs.RowFacts.{rows_first, rows_step, rows_room, rows_formed, rows_named, rows_all}
use Rattle.lowering.proofs.program.lower_rows.Goals as goal

pub loop-row-init : goal.loop-row-init
loop-row-init c =
    let same = sym (c.into_iter-row-iterator.ensures.into_iter_gives.0 ∙ c.into_vec-row-items.ensures) in
    rows_first _ c.new-graph.result c.new-tips.result.items c.new-graph.ensures c.new-tips.ensures.items
    (subst (λ rows. RoomFor (λ s. All (RowNames (HasTree s)) rows) no_graph (2 * count_of_steps rows)) same c.requires.room)

pub lower_row-requires-clause-stage : goal.lower_row-requires-clause-stage
lower_row-requires-clause-stage c =
    let formed = subst IsWellFormed (sym (c.into_iter-row-iterator.ensures.into_iter_gives.0 ∙ c.into_vec-row-items.ensures)) c.requires.rows in
    rows_formed _ _ _ c.in-Some.row c.loop-row.graph c.loop-row.tips.items formed c.loop-row.invariant c.in-Some.ensures.steps.0

pub lower_row-requires-clause-named : goal.lower_row-requires-clause-named
lower_row-requires-clause-named c =
    let formed = subst IsWellFormed (sym (c.into_iter-row-iterator.ensures.into_iter_gives.0 ∙ c.into_vec-row-items.ensures)) c.requires.rows in
    subst (λ ts. RowNames (HasTip ts) c.in-Some.row) (sym c.as_slice.ensures.value)
    (rows_named _ _ _ c.in-Some.row c.loop-row.graph c.loop-row.tips.items formed c.loop-row.invariant c.in-Some.ensures.steps.0)

pub lower_row-requires-clause-inside : goal.lower_row-requires-clause-inside
lower_row-requires-clause-inside c =
    subst (λ ts. AreInside ts (length c.loop-row.graph.vertices)) (sym c.as_slice.ensures.value) c.loop-row.invariant.are.inside

pub lower_row-requires-clause-room : goal.lower_row-requires-clause-room
lower_row-requires-clause-room c = rows_room _ _ _ c.in-Some.row c.loop-row.graph c.loop-row.tips.items c.loop-row.invariant c.in-Some.ensures.steps.0

pub loop-row-preserved : goal.loop-row-preserved
loop-row-preserved c =
    let put = subst (λ ts. IsRowPut c.loop-row.graph c.lower_row.new.graph ts c.in-Some.row c.in_ok-tip.tip) c.as_slice.ensures.value c.in_ok-tip.ensures in
    rows_step _ _ _ c.in-Some.row _ _ c.loop-row.tips.items _ c.in_ok-tip.tip c.loop-row.invariant c.in-Some.ensures.steps.0 put c.in_ok-push.ensures.items

pub returns : goal.returns
returns c =
    let all = rows_all _ _ c.loop-row.graph c.loop-row.tips.items c.loop-row.invariant (sym c.loop-row.row-iterator.rest.ok.0 ∙ c.in-None.ensures.steps.0) in
    let whole = subst (λ rows. AreRowsPut rows c.loop-row.graph c.loop-row.tips.items)
    (c.into_iter-row-iterator.ensures.into_iter_gives.0 ∙ c.into_vec-row-items.ensures) all in
    subst (AreRowsPut c.args.rows c.loop-row.graph) (sym c.from_vec-tips.ensures) whole
