use Rattle.std.proofs.Common.{take}
use Rattle.std.specs.List.{flat_map}
use Rattle.memo.specs.Key.{Takes}
use Rattle.memo.proofs.written.write_items.Given as goal

-- after the number of items, those so far are written
abbrev pub invariant-loop-item : goal.invariant-loop-item
invariant-loop-item g l = Takes l.initial.hasher l.hasher (flat_map g.T.Written.writes (take l.item-index l.items))
