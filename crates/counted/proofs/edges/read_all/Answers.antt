use Rattle.std.proofs.Common.{◌+◌, ◌≤◌, length, take, arith}
use Rattle.std.proofs.lemmas.List.{length-take}
use Rattle.counted.proofs.Reading.{loses_more}
use Rattle.counted.proofs.edges.read_all.Goals as goal

pub returns-in_err-extend_from_slice-in-Ok-clause-lost :
    goal.returns-in_err-extend_from_slice-in-Ok-clause-lost
returns-in_err-extend_from_slice-in-Ok-clause-lost g c =
    let taken = c.in-Ok.ensures.bound in
    let room = length-take c.min-room.result c.reading.buffer in
    let short : length c.reading.bytes.items + length (take c.in-Ok.n c.read.new.buf) ≤ c.args.limit =
    omega (arith, c.reading.bytes.ok.0, c.reading.invariant.short, c.len-in-reading.ensures, c.min-room.ensures, room, c.read.auto.buf, taken.0, taken.1) in
    loses_more _ c.args.limit _ _ _ _ _ short c.reading.invariant.consumed c.in-Ok.ensures.bytes.0
