use Rattle.std.proofs.Common.{◌≡◌, map, drop}
use Rattle.std.specs.List.{zip}
use Rattle.plans.specs.Request.{binds_of}
use Rattle.vertexrun.proofs.BindSteps.{after}
use Rattle.vertexrun.proofs.requests.run_binds.Given as goal

-- the binds so far and those that are left are all of them
abbrev pub invariant-loop-index : goal.invariant-loop-index
invariant-loop-index l =
    after l.bound (binds_of (zip (drop l.index l.binds) (map (λ tree. tree.now) (drop l.index l.trees)))) ≡ binds_of (zip l.binds (map (λ tree. tree.now) l.trees))
