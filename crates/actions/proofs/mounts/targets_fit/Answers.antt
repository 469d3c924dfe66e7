use Rattle.std.proofs.Common.{ℕ, List, Bor}
use Rattle.llb.proofs.WellFormedSteps.{targets_hit, targets_miss}
use Rattle.actions.proofs.mounts.targets_fit.Goals as goal

pub returns-then-not-fits_beside : goal.returns-then-not-fits_beside
returns-then-not-fits_beside c =
    targets_hit (λ (target : Bor (List (List ℕ))). target.now) c.args.targets.now c.loop-rest.rest.now c.target-item.result c.fits_beside.result
    c.loop-rest.invariant c.in-len1-up.len_at_least c.target-item.is c.fits_beside.ensures c.if-not-fits_beside.true

pub loop-rest-preserved : goal.loop-rest-preserved
loop-rest-preserved c =
    targets_miss (λ (target : Bor (List (List ℕ))). target.now) c.args.targets.now c.loop-rest.rest.now c.target-item.result c.fits_beside.result
    c.loop-rest.invariant c.in-len1-up.len_at_least c.target-item.is c.fits_beside.ensures c.if-not-fits_beside.false
