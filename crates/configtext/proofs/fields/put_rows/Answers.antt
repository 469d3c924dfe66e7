use Rattle.std.proofs.Common.{ap₂}
use Rattle.serde_json.specs.Written.{compact_text}
use Rattle.imageconfig.specs.Writing.{variable_data}
use Rattle.counted.proofs.GatheringFacts.{says_both, says_as}
use Rattle.configtext.proofs.FieldFacts.{items-next}
use Rattle.configtext.proofs.fields.put_rows.Goals as goal

pub loop-name-preserved : goal.loop-name-preserved
loop-name-preserved g c = record {
  said = λ last rest.
      c.loop-name.invariant.said last (says_as (says_both c.put_comma.ensures.says (says_both c.put_variable.ensures.says rest))
      (items-next variable_data c.loop-name.later c.loop-name.name-iterator c.next.new.self _ _ c.in-Some.ensures.steps
      (ap₂ (λ n v. compact_text (variable_data (n, v))) c.as_str.ensures c.as_str-in-loop-name.ensures)));
  room = c.put_variable.ensures.room;
}
