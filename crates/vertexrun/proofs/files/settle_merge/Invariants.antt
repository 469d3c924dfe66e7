use Rattle.std.proofs.Common.{◌≡◌, map, drop}
use Rattle.trees.specs.Over.{merged}
use Rattle.std.proofs.Common.{◌∷◌}
use Rattle.vertexrun.proofs.files.settle_merge.Given as goal

-- the trees so far as one, and those that are left, are all of them
abbrev pub invariant-loop-upper : goal.invariant-loop-upper
invariant-loop-upper l = merged (l.tree ∷ map (λ tree. tree.now) (drop l.upper-index l.rest)) ≡ merged (map (λ tree. tree.now) l.fn.inputs)
