use Rattle.std.proofs.Common.{◌≡◌, true, refl, arith, rules}
use Rattle.counted.proofs.GatheringFacts.{says_both, says_as}
use Rattle.configtext.proofs.FieldFacts.{said-is}
use Rattle.configtext.proofs.fields.put_labels.Goals as goal

pub returns-clause-says : goal.returns-clause-says
returns-clause-says g c =
    let set : c.args.are_set ≡ true = first_of (search rules, grind (arith)) in
    says_as (says_both c.put_key.ensures.says (says_both c.gather.ensures.says c.put_members.ensures.says))
    (said-is c.args.are_set c.args.later c.args.key.now _ _ set refl)
