use Rattle.std.proofs.Common.{◌≡◌, map, length}
use Rattle.runs.specs.Run.{mounts_fit}
use Rattle.actions.proofs.mounts.targets_fit.Given as goal

abbrev pub invariant-loop-rest : goal.invariant-loop-rest
invariant-loop-rest l = mounts_fit (map (λ target. target.now) l.targets) ≡ mounts_fit (map (λ target. target.now) l.rest)

abbrev pub decreases-loop-rest : goal.decreases-loop-rest
decreases-loop-rest l = length l.rest
