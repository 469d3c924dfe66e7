use Rattle.std.proofs.Common.{arith, sym, subst}
use Rattle.std.specs.List.{All}
use Rattle.rows.specs.WellFormed.{HasTree}
use Rattle.lowering.specs.PrivateRoom.{RoomFor}
use Rattle.lowering.proofs.InputFacts.{operation_room_less}
use Rattle.lowering.proofs.StepFacts.{copy_ok}
use Rattle.lowering.proofs.steps.lower_copy.Goals as goal

pub put_operation-requires-clause-room : goal.put_operation-requires-clause-room
put_operation-requires-clause-room c =
    subst (λ os. RoomFor (λ s. All (HasTree s) os) c.args.graph.now 1) (sym c.in_ok-origins.ensures)
    (operation_room_less c.args.graph.now _ 2 1 (omega arith) c.requires.room)

pub returns : goal.returns
returns c = copy_ok _ _ c.args.tips.now c.args.line c.args.base c.args.files c.args.from _ c.put_operation.result c.in_ok-origins.ensures
    c.put_operation.ensures
