use Rattle.std.proofs.Common.{◌≡◌, ◌++◌, take}
use Rattle.wire.specs.Kinds.{texts_field}
use Rattle.wire.proofs.message.Message.with_blocks.Given as goal

-- the bytes so far are written
abbrev pub invariant-loop-value : goal.invariant-loop-value
invariant-loop-value l = l.message ≡ l.fn.self ++ texts_field l.field (take l.value-index l.values)
