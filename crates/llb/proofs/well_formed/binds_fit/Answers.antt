use Rattle.std.proofs.Common.{sym, ◌∙◌}
use Rattle.runs.specs.declared.run.CacheUse.{CacheUse}
use Rattle.llb.specs.declared.op.Bind.{Bind}
use Rattle.llb.proofs.WellFormedSteps.{mounts_hit, mounts_other, mounts_miss}
use Rattle.llb.proofs.well_formed.binds_fit.Goals as goal

pub returns-then-not-fits_beside : goal.returns-then-not-fits_beside
returns-then-not-fits_beside c = mounts_hit (λ (bind : Bind). bind.target) (λ (cache : CacheUse). cache.target) c.args.binds.now c.loop-rest.rest.now c.bind-item.result c.args.caches.now c.fits_beside.result c.loop-rest.invariant c.in-len1-up.len_at_least c.bind-item.is c.fits_beside.ensures c.if-not-fits_beside.true

pub returns-then-clashes : goal.returns-then-clashes
returns-then-clashes c = mounts_other (λ (bind : Bind). bind.target) (λ (cache : CacheUse). cache.target) c.args.binds.now c.loop-rest.rest.now c.bind-item.result c.args.caches.now c.loop-rest.invariant c.in-len1-up.len_at_least c.bind-item.is (sym c.clashes.ensures ∙ c.if-clashes.true)

pub loop-rest-preserved : goal.loop-rest-preserved
loop-rest-preserved c = mounts_miss (λ (bind : Bind). bind.target) (λ (cache : CacheUse). cache.target) c.args.binds.now c.loop-rest.rest.now c.bind-item.result c.args.caches.now c.fits_beside.result c.loop-rest.invariant c.in-len1-up.len_at_least c.bind-item.is c.fits_beside.ensures c.if-not-fits_beside.false (sym c.clashes.ensures ∙ c.if-clashes.false)
