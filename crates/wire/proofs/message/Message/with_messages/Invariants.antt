use Rattle.std.proofs.Common.{◌≡◌, ◌++◌, take}
use Rattle.wire.specs.Kinds.{messages_field}
use Rattle.wire.proofs.message.Message.with_messages.Given as goal

-- the values so far are written
abbrev pub invariant-loop-value : goal.invariant-loop-value
invariant-loop-value g l = l.message ≡ l.fn.self ++ messages_field g.T.Encode.fields l.field (take l.value-index l.values)
