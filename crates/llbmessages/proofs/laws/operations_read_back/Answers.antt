use Rattle.llbmessages.proofs.OpBack.{op-back}
use Rattle.llbmessages.proofs.laws.operations_read_back.Goals as goal

pub returns : goal.returns
returns c = op-back
