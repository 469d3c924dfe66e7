use denote.Param.Send.{sendable}
use Rattle.entries.proofs.Crosses.{share_send}
use Rattle.entries.proofs.together.print_round.Goals as goal

pub for_each_mut-requires-send-T : goal.for_each_mut-requires-send-T
for_each_mut-requires-send-T g c κs within = search (share_send, sendable) depth 20
