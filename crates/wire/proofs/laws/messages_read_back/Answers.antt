use Rattle.wire.proofs.MessageLemmas.{message-back}
use Rattle.wire.proofs.laws.messages_read_back.Goals as goal

pub returns : goal.returns
returns c = message-back
