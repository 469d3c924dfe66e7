use Rattle.std.proofs.Common.{arith, sym, subst, IfOk}
use Rattle.std.specs.List.{All}
use Rattle.rows.specs.WellFormed.{HasTree, NamesOnly}
use Rattle.lowering.specs.PrivateRoom.{RoomFor}
use Rattle.lowering.specs.PrivateGrowth.{IsStepPut}
use Rattle.lowering.proofs.InputFacts.{operation_room_less}
use Rattle.lowering.proofs.StepFacts.{run_ok, dirs_ok, no_names_room}
use Rattle.lowering.proofs.steps.lower_step.Goals as goal

pub put_operation-requires-clause-room : goal.put_operation-requires-clause-room
put_operation-requires-clause-room c =
    let room = subst (λ a. RoomFor (λ s. NamesOnly (HasTree s) a) c.args.graph.now 2) c.in-Run.is c.requires.room in
    subst (λ os. RoomFor (λ s. All (HasTree s) os) c.args.graph.now 1) (sym c.into_vec-origins.ensures)
    (operation_room_less c.args.graph.now _ 2 1 (omega arith) room)

pub lower_linked-requires-clause-room : goal.lower_linked-requires-clause-room
lower_linked-requires-clause-room c = subst (λ a. RoomFor (λ s. NamesOnly (HasTree s) a) c.args.graph.now 2) c.in-Copy.is c.requires.room

pub lower_copy-requires-clause-room : goal.lower_copy-requires-clause-room
lower_copy-requires-clause-room c = subst (λ a. RoomFor (λ s. NamesOnly (HasTree s) a) c.args.graph.now 2) c.in-Copy.is c.requires.room

pub put_operation-requires-in-MakeDirs-clause-room : goal.put_operation-requires-in-MakeDirs-clause-room
put_operation-requires-in-MakeDirs-clause-room c = no_names_room c.args.graph.now _ _ c.new-none.ensures.items c.requires.room

pub returns-in-Run : goal.returns-in-Run
returns-in-Run c =
    subst (λ a. IfOk c.put_operation.result
    (IsStepPut c.args.graph.now c.put_operation.new.graph c.args.tips.now c.args.base (record { line = c.args.step.line; action = a }))) (sym c.in-Run.is)
    (run_ok _ _ c.args.tips.now c.args.step.line c.args.base c.in-Run.exec c.in-Run.from _ c.put_operation.result c.into_vec-origins.ensures
    c.put_operation.ensures)

pub returns-in-MakeDirs : goal.returns-in-MakeDirs
returns-in-MakeDirs c =
    let result = c.put_operation-in-MakeDirs.result in
    subst (λ a. IfOk result
    (IsStepPut c.args.graph.now c.put_operation-in-MakeDirs.new.graph c.args.tips.now c.args.base
    (record { line = c.args.step.line; action = a }))) (sym c.in-MakeDirs.is)
    (dirs_ok _ _ c.args.tips.now c.args.step.line c.args.base c.in-MakeDirs.path _ result c.new-none.ensures.items c.put_operation-in-MakeDirs.ensures)
