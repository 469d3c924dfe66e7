use Rattle.std.proofs.Common.{◌≡◌, drop, map}
use Rattle.std.specs.List.{list_any}
use Rattle.meant.specs.Mounts.{has_name}
use Rattle.meant.proofs.mounts.have_name.Given as goal

-- the items that are left decide
abbrev pub invariant-loop-item : goal.invariant-loop-item
invariant-loop-item l = list_any (has_name l.name) (map (λ item. item.now) (drop l.item-index l.items)) ≡ list_any (has_name l.name) (map (λ item. item.now) l.items)
