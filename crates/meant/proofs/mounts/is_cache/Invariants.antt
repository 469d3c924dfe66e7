use Rattle.std.proofs.Common.{◌≡◌, drop, map}
use Rattle.meant.specs.Mounts.{first_kind}
use Rattle.meant.proofs.mounts.is_cache.Given as goal

-- the items that are left decide
abbrev pub invariant-loop-item : goal.invariant-loop-item
invariant-loop-item l = first_kind (map (λ item. item.now) (drop l.item-index l.items)) ≡ first_kind (map (λ item. item.now) l.items)
