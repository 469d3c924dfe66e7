use Rattle.std.proofs.Common.{◌∙◌, ap}
use Rattle.trees.specs.declared.entry.Entry.{Entry}
use Rattle.trees.specs.PrivateNode.{NodeValue, node_of}
use Rattle.trees.specs.Copy.{placed_entry}
use Rattle.trees.proofs.SeenSteps.{depth-kids}
use Rattle.trees.proofs.inner.Inner.placed.Goals as goal

pub invariant_of-result : goal.invariant_of-result
invariant_of-result c =
    depth-kids c.args.options.now c.self.inside.depth c.self.inside.entry c.self.inside.kids c.in_ok-kids.kids c.args.self.now c.self.view_is c.in_ok-kids.ensures c.self.invariant

pub returns : goal.returns
returns c =
    ap (λ (e : Entry). node_of e c.in_ok-kids.kids) (c.in_ok-entry.ensures ∙ ap (λ (n : NodeValue). placed_entry c.args.options.now n.top) c.self.view_is) ∙ c.in_ok-kids.ensures
