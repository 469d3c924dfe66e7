use Rattle.std.proofs.Common.{◌≡◌, ◌++◌, map, drop}
use Rattle.std.specs.List.{filter_map}
use Rattle.actions.specs.declared.mounts.ReadCache.{ReadCache}
use Rattle.actions.proofs.mounts.read_ids.Given as goal

abbrev pub invariant-loop-cache : goal.invariant-loop-cache
invariant-loop-cache l =
    map (λ id. id.now) l.ids.items ++ filter_map (λ (cache : ReadCache). cache.id) (drop l.cache-index l.caches)
    ≡ filter_map (λ (cache : ReadCache). cache.id) l.caches
