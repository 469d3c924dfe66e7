use Rattle.std.proofs.Common.{◌<◌, length, ap, ◌∙◌, arith}
use Rattle.json.specs.Print.{quoted}
use Rattle.serde_json.specs.Data.{string}
use Rattle.counted.proofs.GatheringFacts.{says_both, says_as}
use Rattle.configtext.proofs.FieldFacts.{items-from}
use Rattle.configtext.proofs.fields.put_items.Goals as goal

pub loop-text-preserved : goal.loop-text-preserved
loop-text-preserved g c =
    let list = c.args.list.now in
    let lt : c.loop-text.text-index < length list = omega arith in
    record {
      said = λ last rest.
          c.loop-text.invariant.said last (says_as (says_both c.put_comma.ensures.says (says_both c.put_quoted.ensures.says rest))
          (items-from string c.loop-text.later list c.text-item.result _ c.loop-text.text-index lt c.text-item.is (ap quoted (c.as_bytes.ensures.value ∙ c.as_str.ensures))));
      room = c.put_quoted.ensures.room;
    }
