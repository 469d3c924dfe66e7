use Rattle.std.proofs.Common.{◌≡◌, ◌++◌, map, drop}
use Rattle.std.specs.List.{filter_map}
use Rattle.actions.specs.declared.mounts.ReadBind.{ReadBind}
use Rattle.actions.specs.declared.mounts.ReadCache.{ReadCache}
use Rattle.actions.proofs.mounts.read_targets.Given as goal

abbrev pub invariant-loop-bind : goal.invariant-loop-bind
invariant-loop-bind l =
    map (λ target. target.now) l.targets.items ++ filter_map (λ (bind : ReadBind). bind.target) (drop l.bind-index l.binds)
    ≡ filter_map (λ (bind : ReadBind). bind.target) l.binds

abbrev pub invariant-loop-cache : goal.invariant-loop-cache
invariant-loop-cache l =
    map (λ target. target.now) l.targets.items ++ filter_map (λ (cache : ReadCache). cache.target) (drop l.cache-index l.caches)
    ≡ map (λ target. target.now) l.initial.targets.items ++ filter_map (λ (cache : ReadCache). cache.target) l.caches
