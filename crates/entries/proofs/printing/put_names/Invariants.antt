use Rattle.std.proofs.Common.{drop}
use Rattle.json.specs.Print.{escape}
use Rattle.paths.specs.Path.{rooted}
use Rattle.counted.specs.Gathering.{Sink, sink, Says, HasRoom}
use Rattle.trees.specs.Rows.{lent_names}
use Rattle.entries.proofs.printing.put_names.Given as goal

-- whoever says the names to come has said the path
abbrev pub invariant-loop-name : goal.invariant-loop-name
invariant-loop-name g l = record {
  said : (last : Sink)
      → Says (sink (g.W.CountedWrite.contents l.output) (g.W.CountedWrite.failures l.output) l.gathered) last (escape (rooted (lent_names (drop l.name-index l.names))))
      → Says (sink (g.W.CountedWrite.contents l.fn.output) (g.W.CountedWrite.failures l.fn.output) l.fn.gathered) last (escape (rooted (lent_names l.names)));
  room : HasRoom (g.W.CountedWrite.failures l.output) l.gathered;
}
