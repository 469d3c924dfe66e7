use Rattle.std.proofs.Common.{◌≡◌, Some, take}
use Rattle.plans.specs.Value.{trees_at}
use Rattle.memo.specs.Kept.{kept_trees}
use Rattle.memo.specs.Numbers.{generation_of}
use Rattle.solver.proofs.recall.Recall.numbers_of.Given as goal

-- the numbers so far are those of the trees of the first inputs
abbrev pub invariant-loop-at : goal.invariant-loop-at
invariant-loop-at g l = trees_at g.N.Numbering.values (take l.at l.vertex.inputs) ≡ Some (kept_trees (generation_of l.self l.age) l.numbers.items)
