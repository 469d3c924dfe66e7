use Rattle.memo.proofs.GenerationLemmas.{kept-now}
use Rattle.memo.proofs.generation.Generation.keep_source.Goals as goal

pub returns-clause-ok : goal.returns-clause-ok
returns-clause-ok c =
    kept-now c.self.inside.trees.items c.keep.new.trees.items c.self.inside.steps.items c.args.tree.now c.args.self.now c.self.view_is c.self.invariant.0 c.in_ok-number.ensures.ok
