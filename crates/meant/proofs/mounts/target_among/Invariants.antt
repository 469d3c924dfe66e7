use Rattle.std.proofs.Common.{◌≡◌, drop, map}
use Rattle.meant.specs.Mounts.{target_among}
use Rattle.meant.proofs.mounts.target_among.Given as goal

-- the items that are left decide
abbrev pub invariant-loop-item : goal.invariant-loop-item
invariant-loop-item l = target_among (map (λ item. item.now) (drop l.item-index l.items)) ≡ target_among (map (λ item. item.now) l.items)
