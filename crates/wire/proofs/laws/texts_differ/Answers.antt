use Rattle.wire.proofs.MessageLemmas.{message-same}
use Rattle.wire.proofs.laws.texts_differ.Goals as goal

pub returns : goal.returns
returns c = message-same
