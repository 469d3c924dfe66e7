use Rattle.std.proofs.Common.{sym, subst, arith}
use Rattle.std.specs.Prelude.{IsTrue}
use Rattle.llb.specs.WellFormed.{is_well_formed_on}
use Rattle.lowering.proofs.InputFacts.{inputs_long, operation_ok, operation_room, operation_room_less}
use Rattle.lowering.proofs.adding.put_operation.Goals as goal

pub put_inputs-requires-clause-room : goal.put_inputs-requires-clause-room
put_inputs-requires-clause-room c = operation_room_less c.args.graph.now _ 1 0 (omega arith) c.requires.room

pub put-requires-clause-inputs : goal.put-requires-clause-inputs
put-requires-clause-inputs c = c.in_ok-inputs.ensures.inside

pub put-requires-clause-well_formed : goal.put-requires-clause-well_formed
put-requires-clause-well_formed c =
    subst (λ n. IsTrue (is_well_formed_on c.args.op n)) (sym (inputs_long _ _ _ _ _ _ _ c.in_ok-inputs.ensures)) c.requires.well_formed

pub put-requires-clause-room : goal.put-requires-clause-room
put-requires-clause-room c = operation_room _ _ c.args.tips.now c.args.line c.args.base c.args.op _ _ c.requires.other c.in_ok-inputs.ensures c.requires.room

pub returns : goal.returns
returns c = operation_ok _ _ _ c.args.tips.now c.args.line c.args.base c.args.op _ _ c.put.result c.requires.other c.in_ok-inputs.ensures c.put.ensures
