use Rattle.std.proofs.Common.{◌≡◌, List, ℕ, false, ap, ◌∙◌}
use Rattle.std.proofs.lemmas.Result.{IfOk-weaker}
use Rattle.serde_json.specs.View.{view}
use Rattle.serde_json.specs.Written.{has_float}
use Rattle.sentences.specs.Json.{written_line}
use Rattle.sentences.specs.Showing.{pointer_of}
use Rattle.sentences.proofs.JsonFacts.{refusal_is_plain}
use Rattle.sentences.proofs.json.json_line.Goals as goal

pub returns : goal.returns
returns c =
    let plain : has_float (view c.in_ok-value.value) ≡ false =
    ap has_float c.in_ok-value.ensures
    ∙ refusal_is_plain (pointer_of c.args.pointed) c.args.code.now c.args.file.now c.args.number c.args.message.now c.args.text.now in
    IfOk-weaker c.written_line.result _ _ (λ text written. written plain ∙ ap written_line c.in_ok-value.ensures) c.written_line.ensures
