use Rattle.wire.specs.Kinds.{messages_field}
use Rattle.wire.proofs.KindLemmas.{appended_none, messages_more}
use Rattle.wire.proofs.message.Message.with_messages.Goals as goal

pub loop-value-init : goal.loop-value-init
unfolding messages_field
loop-value-init g c = appended_none c.args.self

pub loop-value-preserved : goal.loop-value-preserved
loop-value-preserved g c =
    messages_more g.T.Encode.fields c.args.self c.loop-value.message c.in_ok-message.message c.args.field c.loop-value.value-index c.args.values.now
    c.value-item.result c.loop-value.invariant c.in_ok-message.ensures c.loop-value-test.true c.value-item.is
