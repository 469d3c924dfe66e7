use Rattle.std.proofs.Common.{◌≡◌, length, map, take}
use Rattle.memo.specs.PrivateGeneration.{trees_at, AreBelow, IsMore}
use Rattle.memo.proofs.generation.keep_all.Given as goal

-- the trees so far are kept, after those that were there, and the numbers are theirs
abbrev pub invariant-loop-tree : goal.invariant-loop-tree
invariant-loop-tree l =
    IsMore l.fn.trees.items l.trees.items
    × (trees_at l.trees.items l.numbers.items ≡ map (λ lent. lent.now) (take l.tree-index l.added))
    × AreBelow (length l.trees.items) l.numbers.items
