use Rattle.contexts.specs.Left.{has_path}
use Rattle.contexts.proofs.LeftFacts.{gaps_more}
use Rattle.contexts.proofs.left.gaps.Goals as goal

pub loop-path-preserved : goal.loop-path-preserved
loop-path-preserved c =
    gaps_more c.args.tree.now c.args.paths.now c.loop-path.path-index c.path-item.result c.loop-path-test.true c.path-item.is (has_path c.loop-path.found.keys) (has_path c.add_gap.new.found.keys)
    c.loop-path.invariant c.in_ok-add_gap.ensures
