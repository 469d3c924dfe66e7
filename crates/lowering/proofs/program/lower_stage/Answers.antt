use Rattle.lowering.proofs.StepFacts.{stage_ok, base_room, stage_room}
use Rattle.lowering.proofs.program.lower_stage.Goals as goal

pub put_origin-requires-clause-room : goal.put_origin-requires-clause-room
put_origin-requires-clause-room c = base_room c.args.graph.now c.args.stage c.requires.room

pub lower_steps-requires-clause-room : goal.lower_steps-requires-clause-room
lower_steps-requires-clause-room c = stage_room _ _ c.args.tips.now c.args.stage c.in_ok-base.base _ c.in_ok-base.ensures c.into_vec.ensures c.requires.room

pub returns : goal.returns
returns c = stage_ok _ _ _ c.args.tips.now c.args.stage c.in_ok-base.base _ c.lower_steps.result c.in_ok-base.ensures c.into_vec.ensures c.lower_steps.ensures
