use Rattle.std.proofs.Common.{length}
use Rattle.json.specs.Print.{escape}
use Rattle.counted.specs.Gathering.{Sink, sink, Says, HasRoom}
use Rattle.quoted.proofs.quoting.put_text.Given as goal

-- whoever says the bytes to come has said all
abbrev pub invariant-loop-rest : goal.invariant-loop-rest
invariant-loop-rest g l = record {
  said : (last : Sink)
      → Says (sink (g.W.CountedWrite.contents l.output) (g.W.CountedWrite.failures l.output) l.gathered) last (escape l.rest)
      → Says (sink (g.W.CountedWrite.contents l.fn.output) (g.W.CountedWrite.failures l.fn.output) l.fn.gathered) last (escape l.fn.bytes);
  room : HasRoom (g.W.CountedWrite.failures l.output) l.gathered;
}

abbrev pub decreases-loop-rest : goal.decreases-loop-rest
decreases-loop-rest g l = length l.rest
