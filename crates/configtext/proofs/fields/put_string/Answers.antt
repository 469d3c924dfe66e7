use Rattle.std.proofs.Common.{◌≡◌, not, true, sym, ap, ◌∙◌}
use Rattle.json.specs.Print.{quoted}
use Rattle.imageconfig.specs.Writing.{is_set}
use Rattle.counted.proofs.GatheringFacts.{says_both, says_as}
use Rattle.configtext.proofs.FieldFacts.{said-is}
use Rattle.configtext.proofs.fields.put_string.Goals as goal

pub returns-clause-says : goal.returns-clause-says
returns-clause-says g c =
    let same : c.as_bytes-bytes.result.now ≡ c.args.text.now = c.as_bytes-bytes.ensures.value ∙ c.as_str.ensures in
    let set : is_set c.args.text.now ≡ true = ap is_set (sym same) ∙ ap not (sym c.is_empty.ensures ∙ c.if-is_empty.false) in
    says_as (says_both c.put_key.ensures.says c.put_quoted.ensures.says)
    (said-is (is_set c.args.text.now) c.args.later c.args.key.now _ (quoted c.args.text.now) set (ap quoted same))
