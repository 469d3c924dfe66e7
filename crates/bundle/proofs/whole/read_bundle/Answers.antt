use Rattle.bundle.proofs.WholeFacts.{reads}
use Rattle.bundle.proofs.whole.read_bundle.Goals as goal

pub returns-in-Ok : goal.returns-in-Ok
returns-in-Ok g c = reads g.C.FromLentKeyed.reading c.args.bytes.now c.in-Ok.parts c.complete.result c.in-Ok.ensures c.complete.ensures
