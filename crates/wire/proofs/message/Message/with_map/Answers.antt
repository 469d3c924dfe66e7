use Rattle.std.proofs.Common.{◌≡◌, ◌++◌, subst}
use Rattle.wire.specs.Kinds.{messages_field, message_field, entry_fields}
use Rattle.wire.proofs.KindLemmas.{appended_none, messages_more}
use Rattle.wire.proofs.message.Message.with_map.Goals as goal

pub loop-key-init : goal.loop-key-init
unfolding messages_field
loop-key-init g c = appended_none c.args.self

pub loop-key-preserved : goal.loop-key-preserved
loop-key-preserved g c =
    messages_more (entry_fields g.V.EntryValue.held) c.args.self c.loop-key.message c.in_ok-message.message c.args.field c.loop-key.key-index
    c.deref-key-items.result.now c.loop-key-item.result c.loop-key.invariant
    (subst (λ fields. c.in_ok-message.message ≡ c.loop-key.message ++ message_field c.args.field fields) c.in_ok-entry.ensures
    c.in_ok-message.ensures)
    c.loop-key-test.true c.loop-key-item.is
