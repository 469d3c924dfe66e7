use Rattle.counted.proofs.GatheringFacts.{says_both, says_as}
use Rattle.configtext.proofs.FieldFacts.{variable-text}
use Rattle.configtext.proofs.fields.put_variable.Goals as goal

pub returns-clause-says : goal.returns-clause-says
returns-clause-says g c =
    says_as
    (says_both c.gather.ensures.says (says_both c.put_text.ensures.says (says_both c.gather-2.ensures.says (says_both c.put_text-2.ensures.says c.gather-3.ensures.says))))
    (variable-text c.as_bytes.result.now c.as_bytes-2.result.now c.args.name.now c.args.value.now c.as_bytes.ensures.value c.as_bytes-2.ensures.value)
