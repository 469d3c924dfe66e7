use Rattle.std.proofs.Common.{arith}
use Rattle.bundle.proofs.WholeFacts.{within-long, within-text, within-none}
use Rattle.bundle.proofs.whole.parts_within.Goals as goal

pub returns-then-bytes-most : goal.returns-then-bytes-most
returns-then-bytes-most g c = within-long g.C.FromLentKeyed.reading c.args.most c.args.bytes.now (omega arith)

pub returns-in-Ok : goal.returns-in-Ok
returns-in-Ok g c =
    rw (within-text g.C.FromLentKeyed.reading c.args.most c.args.bytes.now (omega arith) c.in-Ok.ensures.cases.1, ← c.in-Ok.ensures.cases.0) c.parts_in_text.ensures

pub returns-in-Err : goal.returns-in-Err
returns-in-Err g c = within-none g.C.FromLentKeyed.reading c.args.most c.args.bytes.now (omega arith) c.in-Err.ensures.cases.0
