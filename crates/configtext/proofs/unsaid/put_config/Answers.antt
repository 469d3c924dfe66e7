use Rattle.std.proofs.Common.{ap, ◌∙◌}
use Rattle.imageconfig.specs.declared.config.Config.{Config}
use Rattle.counted.proofs.GatheringFacts.{says_both, says_as}
use Rattle.configtext.proofs.FieldFacts.{config-text}
use Rattle.configtext.proofs.unsaid.put_config.Goals as goal

pub returns-clause-says : goal.returns-clause-says
returns-clause-says g c =
    says_as
    (says_both c.gather.ensures.says (says_both c.put_quoted.ensures.says (says_both c.gather-2.ensures.says (says_both c.put_settings.ensures.says
    (says_both c.gather-3.ensures.says (says_both c.put_quoted-2.ensures.says c.gather-4.ensures.says))))))
    (config-text c.args.unsaid.now c.as_bytes.result.now c.as_bytes-2.result.now
    (c.as_bytes.ensures.value ∙ c.as_str.ensures ∙ ap (λ (of : Config). of.architecture) c.unsaid.view_is)
    (c.as_bytes-2.ensures.value ∙ c.as_str-2.ensures ∙ ap (λ (of : Config). of.os) c.unsaid.view_is))
