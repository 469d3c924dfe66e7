use Rattle.std.proofs.Common.{◌≡◌, take}
use Rattle.plain.proofs.items.same_items.Given as goal

-- the two lists begin alike
abbrev pub invariant-loop-index : goal.invariant-loop-index
invariant-loop-index g l = take l.index l.these ≡ take l.index l.those
