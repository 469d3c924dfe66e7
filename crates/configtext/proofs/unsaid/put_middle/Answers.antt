use Rattle.std.proofs.Common.{◌≡◌, not, ◌||◌, ap, ap₂, ◌∙◌, codes}
use Rattle.json.specs.Print.{quoted}
use Rattle.serde_json.specs.Data.{object}
use Rattle.serde_json.specs.Written.{compact_text}
use Rattle.imageconfig.specs.declared.config.Config.{Config}
use Rattle.imageconfig.specs.Writing.{is_set, names_data, rows_data}
use Rattle.counted.proofs.GatheringFacts.{says_none, says_both, says_as}
use Rattle.configtext.specs.PrivateFields.{said_if, said_fields, middle_fields}
use Rattle.configtext.specs.PrivateLabels.{label_members}
use Rattle.configtext.proofs.LabelFacts.{labels-text}
use Rattle.configtext.proofs.unsaid.put_middle.Goals as goal

pub returns-clause-says : goal.returns-clause-says
returns-clause-says g c =
    let config = c.unsaid.inside.config.now in
    let ports : c.as_str.result.now ≡ compact_text (names_data config.exposed_ports) = c.as_str.ensures.value ∙ c.unsaid.invariant.0 in
    let has_ports : not c.is_empty-has_ports.result ≡ is_set config.exposed_ports = ap not c.is_empty-has_ports.ensures in
    let one : c.put_ready-later.result ≡ (is_set config.exposed_ports || c.args.later) = c.put_ready-later.ensures.later ∙ ap (λ b. b || c.args.later) has_ports in
    let labels : compact_text (object (label_members c.unsaid.inside.labels.entries)) ≡ compact_text (rows_data config.labels) = labels-text config.labels _ c.unsaid.invariant.3 in
    let has_labels : not c.is_empty-has_labels.result ≡ is_set config.labels = ap not c.is_empty-has_labels.ensures in
    let two : c.put_labels-later.result ≡ (is_set config.labels || (is_set config.exposed_ports || c.args.later)) =
    c.put_labels-later.ensures.later ∙ ap₂ (λ a b. a || b) has_labels one in
    says_as
    (says_both (says_as c.put_ready-later.ensures.says (ap₂ (λ b t. said_if b c.args.later (codes "ExposedPorts") t) has_ports ports))
    (says_both
    (says_as c.put_labels-later.ensures.says
    (ap₂ (λ a b. said_if a b (codes "Labels") (compact_text (object (label_members c.unsaid.inside.labels.entries)))) has_labels one
    ∙ ap (λ t. said_if (is_set config.labels) (is_set config.exposed_ports || c.args.later) (codes "Labels") t) labels))
    (says_both (says_as c.put_string.ensures.says (ap (λ b. said_if (is_set config.stop_signal) b (codes "StopSignal") (quoted config.stop_signal)) two))
    (says_none _))))
    (ap (λ (of : Config). said_fields c.args.later (middle_fields of)) c.unsaid.view_is)
