use Rattle.llbmessages.proofs.DefinitionBack.{definition-back}
use Rattle.llbmessages.proofs.laws.definitions_read_back.Goals as goal

pub returns : goal.returns
returns c = definition-back
