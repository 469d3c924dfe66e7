use Rattle.llbmessages.proofs.OpBack.{op-same}
use Rattle.llbmessages.proofs.laws.operations_differ.Goals as goal

pub returns : goal.returns
returns c = op-same
