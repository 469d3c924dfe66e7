use Rattle.std.proofs.Common.{◌≡◌, map, take}
use Rattle.solver.proofs.running.inputs_of.Given as goal

abbrev pub invariant-loop-at : goal.invariant-loop-at
invariant-loop-at g l = map (λ tree. tree.now) l.inputs.items ≡ take l.at l.claim.inputs
