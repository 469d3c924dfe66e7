use Rattle.llbmessages.proofs.FitLemmas.{all_more}
use Rattle.llbmessages.proofs.fits.look_at_all.Goals as goal

pub loop-value-preserved : goal.loop-value-preserved
loop-value-preserved g c =
    all_more g.T.Fit.fits c.args.values.now c.loop-value.value-index c.value-item.result c.loop-value.invariant c.loop-value-test.true
    c.value-item.is c.look.ensures
