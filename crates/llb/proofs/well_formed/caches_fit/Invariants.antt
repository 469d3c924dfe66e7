use Rattle.std.proofs.Common.{◌≡◌, map, length}
use Rattle.runs.specs.Run.{mounts_fit}
use Rattle.runs.specs.declared.run.CacheUse.{CacheUse}
use Rattle.llb.proofs.well_formed.caches_fit.Given as goal

abbrev pub invariant-loop-rest : goal.invariant-loop-rest
invariant-loop-rest l = mounts_fit (map (λ (cache : CacheUse). cache.target) l.caches) ≡ mounts_fit (map (λ (cache : CacheUse). cache.target) l.rest)

abbrev pub decreases-loop-rest : goal.decreases-loop-rest
decreases-loop-rest l = length l.rest
