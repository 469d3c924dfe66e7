use Rattle.std.proofs.Common.{◌≡◌, not, ◌||◌, ap, ap₂, ◌∙◌, codes}
use Rattle.json.specs.Print.{quoted}
use Rattle.serde_json.specs.Written.{compact_text}
use Rattle.imageconfig.specs.declared.config.Config.{Config}
use Rattle.imageconfig.specs.Writing.{is_set, names_data}
use Rattle.counted.proofs.GatheringFacts.{says_none, says_both, says_as}
use Rattle.configtext.specs.PrivateFields.{said_if, said_fields, last_fields}
use Rattle.configtext.proofs.unsaid.put_last.Goals as goal

pub returns-clause-says : goal.returns-clause-says
returns-clause-says g c =
    let config = c.unsaid.inside.config.now in
    let one = c.put_string-later.ensures.later in
    let volumes : c.as_str.result.now ≡ compact_text (names_data config.volumes) = c.as_str.ensures.value ∙ c.unsaid.invariant.1 in
    let has_volumes : not c.is_empty-has_volumes.result ≡ is_set config.volumes = ap not c.is_empty-has_volumes.ensures in
    let two : c.put_ready-later.result ≡ (is_set config.volumes || (is_set config.user || c.args.later)) = c.put_ready-later.ensures.later ∙ ap₂ (λ a b. a || b) has_volumes one in
    says_as
    (says_both c.put_string-later.ensures.says
    (says_both
    (says_as c.put_ready-later.ensures.says
    (ap₂ (λ a b. said_if a b (codes "Volumes") c.as_str.result.now) has_volumes one
    ∙ ap (λ t. said_if (is_set config.volumes) (is_set config.user || c.args.later) (codes "Volumes") t) volumes))
    (says_both
    (says_as c.put_string.ensures.says (ap₂ (λ d b. said_if (is_set d) b (codes "WorkingDir") (quoted d)) c.unsaid.invariant.2 two))
    (says_none _))))
    (ap (λ (of : Config). said_fields c.args.later (last_fields of)) c.unsaid.view_is)
