use Rattle.counted.proofs.GatheringFacts.{says_both, says_as}
use Rattle.configtext.proofs.FieldFacts.{label-text}
use Rattle.configtext.proofs.labels.put_label.Goals as goal

pub returns-clause-says : goal.returns-clause-says
returns-clause-says g c =
    says_as (says_both c.put_key.ensures.says c.put_quoted.ensures.says)
    (label-text c.args.later c.args.key.now c.as_bytes.result.now c.args.value.now c.as_bytes.ensures.value)
