use Rattle.std.proofs.Common.{◌≡◌, false, ap, ◌∙◌}
use Rattle.serde_json.specs.View.{view}
use Rattle.serde_json.specs.Written.{compact_text, has_float}
use Rattle.bundle.specs.Answer.{refused_data}
use Rattle.bundle.proofs.AnswerLemmas.{refused_is_plain}
use Rattle.bundle.proofs.answering.refused_answer.Goals as goal

pub returns : goal.returns
returns c =
    let answer : view c.in_ok-answer.answer ≡ refused_data c.args.refusal.now = c.in_ok-answer.ensures in
    let plain : has_float (view c.in_ok-answer.answer) ≡ false = ap has_float answer ∙ refused_is_plain c.args.refusal.now in
    c.from_string.ensures ∙ (c.in_ok-text.ensures.text plain ∙ ap compact_text answer)
