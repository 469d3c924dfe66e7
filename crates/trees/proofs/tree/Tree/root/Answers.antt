use Rattle.std.proofs.Common.{◌∙◌, sym, ap, []}
use Rattle.std.specs.FinMap.{get}
use Rattle.trees.specs.TreeMap.{TreeMap, meta_of}
use Rattle.trees.specs.PrivateNode.{NodeValue}
use Rattle.trees.proofs.TreeSteps.{root-directory}
use Rattle.trees.proofs.tree.Tree.root.Goals as goal

pub returns-clause-value : goal.returns-clause-value
returns-clause-value c = ap (λ (m : TreeMap). get m []) (sym c.self.view_is) ∙ root-directory c.self.inside.root _ c.self.invariant (c.meta.ensures ∙ ap (λ (n : NodeValue). meta_of n.top) c.lent.ensures)
