use Rattle.std.proofs.Common.{length}
use Rattle.counted.specs.Gathering.{Sink, sink, Says, HasRoom}
use Rattle.entries.specs.PrivatePrinting.{rest_text}
use Rattle.entries.proofs.printing.put_rest.Given as goal

-- whoever says the text of the entries to come has said that of all
abbrev pub invariant-saying : goal.invariant-saying
invariant-saying g l = record {
  said : (last : Sink)
      → Says (sink (g.W.CountedWrite.contents l.output) (g.W.CountedWrite.failures l.output) l.gathered) last (rest_text l.later l.walk.left)
      → Says (sink (g.W.CountedWrite.contents l.fn.output) (g.W.CountedWrite.failures l.fn.output) l.fn.gathered) last (rest_text l.fn.later l.initial.walk.left);
  room : HasRoom (g.W.CountedWrite.failures l.output) l.gathered;
}

abbrev pub decreases-saying : goal.decreases-saying
decreases-saying g l = length l.walk.left
