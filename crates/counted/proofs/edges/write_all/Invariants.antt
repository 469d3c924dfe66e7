use Rattle.std.proofs.Common.{◌≡◌, length}
use Rattle.counted.proofs.Writing.{Progress}
use Rattle.counted.proofs.edges.write_all.Given as goal

-- a beginning of the bytes was written, and no call failed
abbrev pub invariant-writing : goal.invariant-writing
invariant-writing g l = record {
  written : Progress (g.W.CountedWrite.contents l.initial.output) (g.W.CountedWrite.contents l.output) l.bytes l.rest;
  quiet : g.W.CountedWrite.failures l.output ≡ g.W.CountedWrite.failures l.initial.output;
}

abbrev pub decreases-writing : goal.decreases-writing
decreases-writing g l = length l.rest
