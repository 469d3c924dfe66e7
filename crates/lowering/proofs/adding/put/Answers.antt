use Rattle.lowering.specs.PrivateRoom.{op_others}
use Rattle.lowering.proofs.Rooms.{room_there}
use Rattle.lowering.proofs.adding.put.Goals as goal

pub add-requires-clause-room : goal.add-requires-clause-room
add-requires-clause-room c = room_there c.requires.room.sources c.args.graph.now (op_others c.args.op) c.vertices-known.ensures.graph c.requires.room.room
