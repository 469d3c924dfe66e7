use Rattle.std.proofs.Common.{◌≡◌, ◌≤◌, ◌-◌, vec_len}
use Rattle.std.specs.Io.KnownBytes.{Consumes}
use Rattle.counted.proofs.edges.read_all.Given as goal

-- what was read so far was taken off the reader, no call failed, and the limit isn't passed
abbrev pub invariant-reading : goal.invariant-reading
invariant-reading g l = record {
  consumed : Consumes (g.R.CountedRead.remaining l.initial.input) (g.R.CountedRead.remaining l.input) l.bytes.items;
  quiet : g.R.CountedRead.failures l.input ≡ g.R.CountedRead.failures l.initial.input;
  short : vec_len l.bytes ≤ l.limit;
}

abbrev pub decreases-reading : goal.decreases-reading
decreases-reading g l = l.limit - vec_len l.bytes
