use Rattle.std.proofs.Common.{ℕ, List, [], sym, subst}
use Rattle.std.specs.FinMap.{entries}
use Rattle.trees.specs.TreeMap.{TreeMap}
use Rattle.trees.proofs.BranchLaws.{clean-rows}
use Rattle.vertexrun.specs.PrivateMatches.{AreClean}
use Rattle.vertexrun.proofs.patterns.matches_of.Goals as goal

pub descend-requires : goal.descend-requires
descend-requires c =
    subst (λ (at : List (List ℕ)). AreClean at (entries c.branch-from.result)) (sym c.root.ensures)
    (subst (λ (tree : TreeMap). AreClean [] (entries tree)) (sym c.branch-from.ensures) (clean-rows c.args.from.now c.root-root.ensures.tree))
