use Rattle.std.proofs.Common.{◌≡◌, false, ap, ◌∙◌}
use Rattle.serde_json.specs.View.{view}
use Rattle.serde_json.specs.Written.{compact_text, has_float}
use Rattle.bundle.specs.Answer.{failed_data}
use Rattle.bundle.proofs.AnswerLemmas.{failed_is_plain}
use Rattle.bundle.proofs.answering.failed_answer.Goals as goal

pub returns : goal.returns
returns c =
    let answer : view c.in_ok-answer.answer ≡ failed_data c.args.line c.args.cause = c.in_ok-answer.ensures in
    let plain : has_float (view c.in_ok-answer.answer) ≡ false = ap has_float answer ∙ failed_is_plain c.args.line c.args.cause in
    c.from_string.ensures ∙ (c.in_ok-text.ensures.text plain ∙ ap compact_text answer)
