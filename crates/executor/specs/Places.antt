-- What a path of a run leads to: into what is mounted, or into the root (Dockerfile reference, RUN --mount; how the fixture does it is own).
--
-- A path at or under the target of a mount leads into what stands there, and is there called by what follows the target. Every other path
-- leads into the root, one above a target too. No two targets of a request lie in one another, so a path leads into one mount at most.
use Rattle.std.specs.Prelude.{◌+◌, ℕ, Option, Some, None, List, [], ◌∷◌, drop, length, if◌then◌else◌}
use Rattle.paths.specs.Path.{is_at_or_under}
use Rattle.runs.specs.declared.run.RunBind.{RunBind}
use Rattle.runs.specs.declared.run.CacheUse.{CacheUse}
use Rattle.runs.specs.declared.run.RunRequest.{RunRequest}

-- the bind that a path lies at or under, with its number; the binds are counted from the first number on
abbrev pub bind_from : ℕ → List RunBind → List (List ℕ) → Option (ℕ × RunBind)
bind_from number [] path = None
bind_from number (bind ∷ binds) path =
    if is_at_or_under path bind.target then Some (number, bind) else bind_from (number + 1) binds path

-- the cache that a path lies at or under, with its number; the caches are counted from the first number on
abbrev pub cache_from : ℕ → List CacheUse → List (List ℕ) → Option (ℕ × CacheUse)
cache_from number [] path = None
cache_from number (cache ∷ caches) path =
    if is_at_or_under path cache.target then Some (number, cache) else cache_from (number + 1) caches path

-- what a path leads to: a cache or a bind by its number, with the path from there; or the root
pub data Place : Type 0 where
  InCache : ℕ → List (List ℕ) → Place
  InBind : ℕ → RunBind → List (List ℕ) → Place
  InRoot : List (List ℕ) → Place

-- what a path is called from a target that it lies at or under
abbrev pub path_from : List (List ℕ) → List (List ℕ) → List (List ℕ)
path_from target path = drop (length target) path

-- what a path leads to, by the cache and the bind that it lies at or under
abbrev pub place_in : Option (ℕ × CacheUse) → Option (ℕ × RunBind) → List (List ℕ) → Place
place_in (Some cache) bind path = InCache cache.0 (path_from cache.1.target path)
place_in None (Some bind) path = InBind bind.0 bind.1 (path_from bind.1.target path)
place_in None None path = InRoot path

-- what a path leads to in a run
abbrev pub place_of : RunRequest → List (List ℕ) → Place
place_of request path = place_in (cache_from 0 request.caches path) (bind_from 0 request.binds path) path
