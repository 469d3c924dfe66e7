use Rattle.std.proofs.Common.{subst, sym}
use Rattle.trees.specs.TreeMap.{IsTree}
use Rattle.trees.specs.PrivateNode.{NodeValue, map_of}
use Rattle.trees.proofs.WalkSteps.{begins}
use Rattle.trees.proofs.walk.Walk.of.Goals as goal

pub invariant_of-result : goal.invariant_of-result
invariant_of-result c = begins c.in_ok-names.names c.in_ok-above.above c.kids.result c.has_bare_kids.result c.lent-root.result (subst (λ (n : NodeValue). IsTree (map_of n)) (sym c.lent-root.ensures) c.requires) c.kids.ensures (λ known. c.has_bare_kids.ensures known c.kids.result c.kids.ensures) c.in_ok-names.ensures.items c.in_ok-above.ensures.items c.in_ok-names.ensures.exact c.in_ok-above.ensures.exact
