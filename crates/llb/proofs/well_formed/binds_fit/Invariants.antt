use Rattle.std.proofs.Common.{◌≡◌, ◌++◌, map, length}
use Rattle.runs.specs.Run.{mounts_fit}
use Rattle.runs.specs.declared.run.CacheUse.{CacheUse}
use Rattle.llb.specs.declared.op.Bind.{Bind}
use Rattle.llb.proofs.well_formed.binds_fit.Given as goal

abbrev pub invariant-loop-rest : goal.invariant-loop-rest
invariant-loop-rest l =
    mounts_fit (map (λ (bind : Bind). bind.target) l.binds ++ map (λ (cache : CacheUse). cache.target) l.caches)
    ≡ mounts_fit (map (λ (bind : Bind). bind.target) l.rest ++ map (λ (cache : CacheUse). cache.target) l.caches)

abbrev pub decreases-loop-rest : goal.decreases-loop-rest
decreases-loop-rest l = length l.rest
