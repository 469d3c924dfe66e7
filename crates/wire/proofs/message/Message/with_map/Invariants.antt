use Rattle.std.proofs.Common.{◌≡◌, ◌++◌, take}
use Rattle.wire.specs.Kinds.{map_field}
use Rattle.wire.proofs.message.Message.with_map.Given as goal

-- the entries so far are written
abbrev pub invariant-loop-key : goal.invariant-loop-key
invariant-loop-key g l = l.message ≡ l.fn.self ++ map_field g.V.EntryValue.held l.field (take l.key-index l.key-items)
