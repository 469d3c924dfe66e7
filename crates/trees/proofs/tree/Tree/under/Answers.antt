use Rattle.std.proofs.Common.{sym, subst, ap, ◌∙◌}
use Rattle.trees.specs.Over.{over}
use Rattle.trees.specs.PrivateNode.{NodeValue, map_of}
use Rattle.trees.specs.TreeMap.{IsTree}
use Rattle.trees.proofs.TreeLaws.{over-IsTree}
use Rattle.trees.proofs.tree.Tree.under.Goals as goal

pub invariant_of-result : goal.invariant_of-result
invariant_of-result c = subst IsTree (sym (c.in_ok-lay_over.ensures ∙ ap (λ (n : NodeValue). over (map_of c.self.inside.root) (map_of n)) c.lent.ensures)) (over-IsTree _ _ c.self.invariant c.upper.invariant)
