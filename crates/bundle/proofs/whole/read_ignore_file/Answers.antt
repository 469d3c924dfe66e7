use Rattle.bundle.proofs.WholeFacts.{ignore_read}
use Rattle.bundle.proofs.whole.read_ignore_file.Goals as goal

pub returns-in-Ok : goal.returns-in-Ok
returns-in-Ok g c = ignore_read g.C.FromLentKeyed.reading c.args.bytes.now c.in-Ok.parts c.ignore_in-found.result c.in-Ok.ensures c.ignore_in-found.ensures
