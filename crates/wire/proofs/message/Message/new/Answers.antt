use Rattle.std.proofs.Common.{ap, ◌∙◌, sym}
use Rattle.wire.specs.Messages.{message_bytes}
use Rattle.wire.specs.PrivateMessage.{fields_in}
use Rattle.wire.proofs.MessageLemmas.{empty-view, empty-bytes}
use Rattle.wire.proofs.message.Message.new.Goals as goal

pub invariant_of-result : goal.invariant_of-result
invariant_of-result c =
    ap (λ bytes. message_bytes (fields_in bytes)) c.new.ensures.items ∙ (ap message_bytes empty-view ∙ (empty-bytes ∙ sym c.new.ensures.items))

pub returns : goal.returns
returns c = ap fields_in c.new.ensures.items ∙ empty-view
