use Rattle.std.proofs.Common.{not, sym, ap, refl, ◌∙◌}
use Rattle.counted.proofs.GatheringFacts.{says_both, says_as}
use Rattle.configtext.proofs.FieldFacts.{said-is}
use Rattle.configtext.proofs.fields.put_list.Goals as goal

pub returns-clause-says : goal.returns-clause-says
returns-clause-says g c =
    says_as (says_both c.put_key.ensures.says (says_both c.gather.ensures.says c.put_items.ensures.says))
    (said-is _ c.args.later c.args.key.now _ _ (ap not (sym c.is_empty.ensures ∙ c.if-is_empty.false)) refl)
