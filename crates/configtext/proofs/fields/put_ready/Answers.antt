use Rattle.std.proofs.Common.{◌≡◌, true, arith, rules}
use Rattle.counted.proofs.GatheringFacts.{says_both, says_as}
use Rattle.configtext.proofs.FieldFacts.{said-is}
use Rattle.configtext.proofs.fields.put_ready.Goals as goal

pub returns-clause-says : goal.returns-clause-says
returns-clause-says g c =
    let set : c.args.is_set ≡ true = first_of (search rules, grind (arith)) in
    says_as (says_both c.put_key.ensures.says c.gather.ensures.says) (said-is c.args.is_set c.args.later c.args.key.now _ c.args.text.now set c.as_bytes.ensures.value)
