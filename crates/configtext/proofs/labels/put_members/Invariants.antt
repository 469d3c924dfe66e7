use Rattle.std.proofs.Common.{false}
use Rattle.serde_json.specs.Written.{members_text}
use Rattle.counted.specs.Gathering.{Sink, sink, Says, HasRoom}
use Rattle.configtext.specs.PrivateLabels.{label_members}
use Rattle.configtext.proofs.labels.put_members.Given as goal

-- whoever says the labels to come has said all
abbrev pub invariant-loop-key : goal.invariant-loop-key
invariant-loop-key g l = record {
  said : (last : Sink)
      → Says (sink (g.W.CountedWrite.contents l.output) (g.W.CountedWrite.failures l.output) l.gathered) last (members_text l.later (label_members l.key-iterator))
      → Says (sink (g.W.CountedWrite.contents l.fn.output) (g.W.CountedWrite.failures l.fn.output) l.fn.gathered) last (members_text false (label_members l.fn.labels.entries));
  room : HasRoom (g.W.CountedWrite.failures l.output) l.gathered;
}
