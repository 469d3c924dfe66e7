use Rattle.std.proofs.Common.{◌≤◌, ◌-◌, arith}
use Rattle.std.proofs.lemmas.Bool.{leb-true}
use Rattle.trees.proofs.DepthSteps.{depth-fits}
use Rattle.trees.proofs.folder.fits.Goals as goal

pub returns : goal.returns
returns c = λ t.
    let same = c.depth-2.ensures in
    let less : c.depth.result ≤ 64 - c.depth-2.result = leb-true c.depth.result (64 - c.depth-2.result) t in
    depth-fits c.depth.result c.args.folder.now c.args.dest.now c.requires.few (omega arith) c.depth.ensures
