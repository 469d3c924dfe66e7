use Rattle.std.proofs.Common.{◌≡◌, false, ap, ap₂, ◌∙◌}
use Rattle.std.specs.FinMap.{entries}
use Rattle.serde_json.specs.View.{view}
use Rattle.serde_json.specs.Written.{compact_text, has_float}
use Rattle.trees.specs.Rows.{lent_rows}
use Rattle.entries.specs.Written.{tree_data}
use Rattle.imageconfig.specs.Writing.{config_data}
use Rattle.bundle.specs.Answer.{built_data}
use Rattle.answering.specs.PrivateText.{built_of}
use Rattle.answering.proofs.TextFacts.{built-of, built_is_plain}
use Rattle.answering.proofs.text.built_answer.Goals as goal

pub returns : goal.returns
returns c =
    let rows = ap (λ rows. tree_data (lent_rows rows)) c.as_slice.ensures.value ∙ ap tree_data c.in_ok-rows.ensures in
    let answer : view c.in_ok-answer.answer ≡ built_data (config_data c.args.config.now) (entries c.args.tree.now) =
    c.in_ok-answer.ensures ∙ (ap₂ built_of c.in_ok-config.ensures.data (c.in_ok-tree.ensures.data ∙ rows) ∙ built-of (config_data c.args.config.now) (entries c.args.tree.now)) in
    let plain : has_float (view c.in_ok-answer.answer) ≡ false =
    ap has_float c.in_ok-answer.ensures ∙ built_is_plain (view c.in_ok-config.config) (view c.in_ok-tree.tree) c.in_ok-config.ensures.whole c.in_ok-tree.ensures.plain in
    c.from_string.ensures ∙ (c.in_ok-text.ensures.text plain ∙ ap compact_text answer)
