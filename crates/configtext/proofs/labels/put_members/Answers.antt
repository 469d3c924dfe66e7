use Rattle.counted.proofs.GatheringFacts.{says_both, says_as}
use Rattle.configtext.proofs.LabelFacts.{labels-from}
use Rattle.configtext.proofs.labels.put_members.Goals as goal

pub loop-key-preserved : goal.loop-key-preserved
loop-key-preserved g c = record {
  said = λ last rest.
      c.loop-key.invariant.said last (says_as (says_both c.put_label.ensures.says rest)
      (labels-from c.loop-key.later c.loop-key.key-iterator c.next.new.self _ _ c.in-Some.ensures.steps));
  room = c.put_label.ensures.room;
}
