use Rattle.std.proofs.Common.{false, map, drop}
use Rattle.serde_json.specs.Data.{string}
use Rattle.serde_json.specs.View.{items_of}
use Rattle.serde_json.specs.Written.{items_text}
use Rattle.counted.specs.Gathering.{Sink, sink, Says, HasRoom}
use Rattle.configtext.proofs.fields.put_items.Given as goal

-- whoever says the texts to come has said all
abbrev pub invariant-loop-text : goal.invariant-loop-text
invariant-loop-text g l = record {
  said : (last : Sink)
      → Says (sink (g.W.CountedWrite.contents l.output) (g.W.CountedWrite.failures l.output) l.gathered) last (items_text l.later (items_of (map string (drop l.text-index l.list))))
      → Says (sink (g.W.CountedWrite.contents l.fn.output) (g.W.CountedWrite.failures l.fn.output) l.fn.gathered) last (items_text false (items_of (map string l.list)));
  room : HasRoom (g.W.CountedWrite.failures l.output) l.gathered;
}
