use Rattle.std.proofs.Common.{◌∷◌, [], ◌++◌, ap}
use Rattle.json.specs.Print.{quoted}
use Rattle.serde_json.specs.Written.{comma_if}
use Rattle.counted.proofs.GatheringFacts.{says_both, says_as}
use Rattle.configtext.proofs.keys.put_key.Goals as goal

pub returns-clause-says : goal.returns-clause-says
returns-clause-says g c =
    says_as (says_both c.put_comma.ensures.says (says_both c.put_quoted.ensures.says c.gather.ensures.says))
    (ap (λ k. comma_if c.args.later ++ (quoted k ++ (58 ∷ []))) c.as_bytes.ensures.value)
