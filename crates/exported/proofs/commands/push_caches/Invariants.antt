use Rattle.std.proofs.Common.{◌≡◌, ◌++◌, map, drop}
use Rattle.exported.specs.Commands.{cache_mount}
use Rattle.exported.proofs.commands.push_caches.Given as goal

-- the mounts so far, and those of what is left
abbrev pub invariant-loop-cache : goal.invariant-loop-cache
invariant-loop-cache l = l.mounts ++ map cache_mount (drop l.cache-index l.caches) ≡ l.fn.mounts ++ map cache_mount l.caches
