use Rattle.std.proofs.Common.{arith}
use Rattle.trees.proofs.ForkSteps.{shut-more}
use Rattle.trees.proofs.spine.close.Goals as goal

pub closing-preserved : goal.closing-preserved
closing-preserved c = (shut-more c.args.folders.now.items c.closing.folders.items c.close_last.new.folders.items c.closing.closed c.closing.invariant.0 c.in_ok-close_last.ensures, omega (arith, c.closing-test.true))
