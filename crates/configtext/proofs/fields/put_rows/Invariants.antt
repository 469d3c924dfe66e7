use Rattle.std.proofs.Common.{false, map}
use Rattle.serde_json.specs.View.{items_of}
use Rattle.serde_json.specs.Written.{items_text}
use Rattle.counted.specs.Gathering.{Sink, sink, Says, HasRoom}
use Rattle.imageconfig.specs.Writing.{variable_data}
use Rattle.configtext.proofs.fields.put_rows.Given as goal

-- whoever says the variables to come has said all
abbrev pub invariant-loop-name : goal.invariant-loop-name
invariant-loop-name g l = record {
  said : (last : Sink)
      → Says (sink (g.W.CountedWrite.contents l.output) (g.W.CountedWrite.failures l.output) l.gathered) last (items_text l.later (items_of (map variable_data l.name-iterator)))
      → Says (sink (g.W.CountedWrite.contents l.fn.output) (g.W.CountedWrite.failures l.fn.output) l.fn.gathered) last (items_text false (items_of (map variable_data l.fn.rows)));
  room : HasRoom (g.W.CountedWrite.failures l.output) l.gathered;
}
