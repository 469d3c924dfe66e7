use Rattle.std.proofs.Common.{◌∙◌, ap}
use Rattle.std.specs.FinMap.{get}
use Rattle.trees.specs.Copy.{kind_of}
use Rattle.trees.specs.PrivateNode.{NodeValue, map_of}
use Rattle.trees.proofs.CutSteps.{remove-done, remove-tree, long-path, there-of}
use Rattle.trees.proofs.tree.Tree.remove.Goals as goal

pub invariant_of-self-in-Some : goal.invariant_of-self-in-Some
invariant_of-self-in-Some c = remove-tree _ _ c.components-parts.result.now c.self.invariant (long-path _ c.is_empty.result c.is_empty.ensures c.if-is_empty.false) c.in_ok-cut-in-Some.ensures.ok

pub returns-in_ok-cut-in-Some : goal.returns-in_ok-cut-in-Some
returns-in_ok-cut-in-Some c =
    remove-done _ _ _ c.components-parts.result.now _ c.self.view_is c.components-parts.ensures.value (long-path _ c.is_empty.result c.is_empty.ensures c.if-is_empty.false) (there-of _ c.kind.result _ (c.kind.ensures ∙ ap (λ (n : NodeValue). kind_of (get (map_of n) c.components-parts.result.now)) c.lent.ensures) c.in-Some.is) c.in_ok-cut-in-Some.ensures.ok
