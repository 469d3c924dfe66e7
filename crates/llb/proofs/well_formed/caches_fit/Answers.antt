use Rattle.runs.specs.declared.run.CacheUse.{CacheUse}
use Rattle.llb.proofs.WellFormedSteps.{targets_hit, targets_miss}
use Rattle.llb.proofs.well_formed.caches_fit.Goals as goal

pub returns-then-not-fits_beside : goal.returns-then-not-fits_beside
returns-then-not-fits_beside c = targets_hit (λ (cache : CacheUse). cache.target) c.args.caches.now c.loop-rest.rest.now c.cache-item.result c.fits_beside.result c.loop-rest.invariant c.in-len1-up.len_at_least c.cache-item.is c.fits_beside.ensures c.if-not-fits_beside.true

pub loop-rest-preserved : goal.loop-rest-preserved
loop-rest-preserved c = targets_miss (λ (cache : CacheUse). cache.target) c.args.caches.now c.loop-rest.rest.now c.cache-item.result c.fits_beside.result c.loop-rest.invariant c.in-len1-up.len_at_least c.cache-item.is c.fits_beside.ensures c.if-not-fits_beside.false
