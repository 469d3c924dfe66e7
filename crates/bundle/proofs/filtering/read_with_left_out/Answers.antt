use Rattle.bundle.proofs.FilteringFacts.{leaves_out}
use Rattle.bundle.proofs.filtering.read_with_left_out.Goals as goal

pub returns-in-Ok : goal.returns-in-Ok
returns-in-Ok g c = leaves_out g.C.FromLentKeyed.reading c.args.bytes.now c.in-Ok.parts c.complete_filtered.result c.in-Ok.ensures c.complete_filtered.ensures
