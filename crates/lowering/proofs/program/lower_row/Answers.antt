use Rattle.std.proofs.Common.{sym, subst, ◌*◌, None, Some}
use Rattle.rows.specs.WellFormed.{HasTree, RowNames, row_steps}
use Rattle.lowering.specs.PrivateRoom.{RoomFor}
use Rattle.lowering.specs.PrivateGrowth.{IsRowPut}
use Rattle.lowering.proofs.RowFacts.{row_none, row_stage}
use Rattle.lowering.proofs.program.lower_row.Goals as goal

pub lower_stage-requires-clause-room : goal.lower_stage-requires-clause-room
lower_stage-requires-clause-room c = subst (λ row. RoomFor (λ s. RowNames (HasTree s) row) c.args.graph.now (2 * row_steps row)) c.in-Some.is c.requires.room

pub returns-in-None : goal.returns-in-None
returns-in-None c = subst (λ row. IsRowPut c.args.graph.now c.args.graph.now c.args.tips.now row None) (sym c.in-None.is)
    (row_none c.args.graph.now c.args.tips.now)

pub returns-in_ok-lower_stage-in-Some : goal.returns-in_ok-lower_stage-in-Some
returns-in_ok-lower_stage-in-Some c =
    let last = c.in_ok-lower_stage-in-Some.field-0 in
    subst (λ row. IsRowPut c.args.graph.now c.lower_stage.new.graph c.args.tips.now row (Some last)) (sym c.in-Some.is)
    (row_stage c.args.graph.now c.lower_stage.new.graph c.args.tips.now c.in-Some.stage last c.in_ok-lower_stage-in-Some.ensures)
