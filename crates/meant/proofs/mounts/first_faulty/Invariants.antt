use Rattle.std.proofs.Common.{◌≡◌, drop, map, string_bytes}
use Rattle.meant.specs.Mounts.{first_faulty, first_faulty_after}
use Rattle.meant.proofs.mounts.first_faulty.Given as goal

-- the items that are left decide, after those that were seen
abbrev pub invariant-loop-item : goal.invariant-loop-item
invariant-loop-item l =
    first_faulty_after l.cache (string_bytes l.front) (map (λ item. item.now) l.seen.items) (map (λ item. item.now) (drop l.item-index l.items))
    ≡ first_faulty (map (λ item. item.now) l.items)
