use Rattle.trees.proofs.SeenSteps.{depth-kids}
use Rattle.trees.proofs.inner.Inner.with_entry.Goals as goal

pub invariant_of-result : goal.invariant_of-result
invariant_of-result c =
    depth-kids c.args.options.now c.self.inside.depth c.self.inside.entry c.self.inside.kids c.in_ok-kids.kids c.args.self.now c.self.view_is c.in_ok-kids.ensures c.self.invariant
