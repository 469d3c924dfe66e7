use Rattle.memo.proofs.GenerationLemmas.{kept-view}
use Rattle.memo.proofs.generation.Generation.keep.Goals as goal

pub returns-clause-ok : goal.returns-clause-ok
returns-clause-ok c =
    kept-view c.self.inside.trees.items c.keep.new.trees.items c.self.inside.steps.items c.args.tree.now c.args.self.now c.keep.result c.self.view_is c.self.invariant.0 c.keep.ensures.ok
