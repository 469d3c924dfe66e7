use Rattle.std.proofs.Common.{refl}
use Rattle.ignorefile.proofs.Deciding.{decided-start, decided-more, decided-path}
use Rattle.ignorefile.proofs.index.Index.rank.Goals as goal

pub loop-depth-init : goal.loop-depth-init
loop-depth-init c = decided-start _ _ c.verdict-decided.ensures

pub loop-depth-preserved : goal.loop-depth-preserved
loop-depth-preserved c = decided-more _ _ _ _ _ _ c.loop-depth-test.true refl c.loop-depth.invariant c.verdict-decided-in-loop-depth.ensures

pub returns : goal.returns
returns c = decided-path _ _ _ _ _ c.loop-depth-test.false refl c.loop-depth.invariant
