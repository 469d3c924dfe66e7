use Rattle.llbmessages.proofs.DefinitionBack.{definition-same}
use Rattle.llbmessages.proofs.laws.definitions_differ.Goals as goal

pub returns : goal.returns
returns c = definition-same
