use Rattle.std.proofs.Common.{false, ap, ◌∙◌}
use Rattle.imageconfig.specs.declared.config.Config.{Config}
use Rattle.counted.proofs.GatheringFacts.{says_both, says_as}
use Rattle.configtext.specs.PrivateFields.{first_fields, said_fields, later_after}
use Rattle.configtext.proofs.FieldFacts.{settings-text}
use Rattle.configtext.proofs.unsaid.put_settings.Goals as goal

pub returns-clause-says : goal.returns-clause-says
returns-clause-says g c =
    let first = says_as c.put_first-later.ensures.says (ap (λ (of : Config). said_fields false (first_fields of)) c.unsaid.view_is) in
    let later = c.put_first-later.ensures.later ∙ ap (λ (of : Config). later_after false (first_fields of)) c.unsaid.view_is in
    says_as (says_both c.gather.ensures.says (says_both first (says_both c.put_middle-later.ensures.says (says_both c.put_last.ensures.says c.gather-2.ensures.says))))
    (settings-text c.args.unsaid.now c.put_first-later.result c.put_middle-later.result later c.put_middle-later.ensures.later)
