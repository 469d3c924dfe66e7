use Rattle.std.proofs.Common.{subst}
use Rattle.trees.specs.PrivateNode.{NodeValue, map_of, IsBelow}
use Rattle.trees.proofs.TreeSteps.{under-file, under-directory, under-IsTree}
use Rattle.trees.proofs.tree.Tree.subtree.Goals as goal

pub returns-then-not-is_directory : goal.returns-then-not-is_directory
returns-then-not-is_directory c =
    under-file _ _ _ _ c.in-Some.node _ c.self.view_is c.components.ensures.value (subst (λ (n : NodeValue). IsBelow (map_of n) c.components.result.now (map_of c.in-Some.node)) c.lent.ensures c.in-Some.ensures) c.is_directory.ensures c.if-not-is_directory.true

pub invariant_of-result : goal.invariant_of-result
invariant_of-result c = under-IsTree _ _ _ _ _ c.self.invariant (subst (λ (n : NodeValue). IsBelow (map_of n) c.components.result.now (map_of c.in-Some.node)) c.lent.ensures c.in-Some.ensures) c.is_directory.ensures c.if-not-is_directory.false c.in_ok-root-in-Some.ensures

pub returns-in_ok-root-in-Some : goal.returns-in_ok-root-in-Some
returns-in_ok-root-in-Some c =
    under-directory _ _ _ _ _ _ _ c.self.view_is c.components.ensures.value (subst (λ (n : NodeValue). IsBelow (map_of n) c.components.result.now (map_of c.in-Some.node)) c.lent.ensures c.in-Some.ensures) c.is_directory.ensures c.if-not-is_directory.false c.in_ok-root-in-Some.ensures
