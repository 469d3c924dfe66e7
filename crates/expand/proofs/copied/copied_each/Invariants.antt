use Rattle.std.proofs.Common.{◌≡◌, take}
use Rattle.expand.proofs.copied.copied_each.Given as goal

-- what was copied so far are the elements so far
abbrev pub invariant-loop-item : goal.invariant-loop-item
invariant-loop-item g l = l.copied.items ≡ take l.item-index l.items
