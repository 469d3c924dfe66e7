use Rattle.std.proofs.Common.{◌≡◌, drop}
use Rattle.executor.specs.Places.{cache_from}
use Rattle.executor.proofs.place.find_cache.Given as goal

-- none of the caches so far has the path
abbrev pub invariant-loop-number : goal.invariant-loop-number
invariant-loop-number l = cache_from l.number (drop l.number l.request.caches) l.path ≡ cache_from 0 l.request.caches l.path
