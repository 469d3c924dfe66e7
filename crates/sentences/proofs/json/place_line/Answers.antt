use Rattle.std.proofs.Common.{◌≡◌, [], false, ap, ◌∙◌}
use Rattle.std.proofs.lemmas.Result.{IfOk-weaker}
use Rattle.serde_json.specs.View.{view}
use Rattle.serde_json.specs.Written.{has_float}
use Rattle.plain.specs.Codes.{code_text}
use Rattle.sentences.specs.Json.{place_data, written_line}
use Rattle.sentences.specs.Subject.{subject_of}
use Rattle.sentences.specs.Table.{remedy, sentence}
use Rattle.sentences.proofs.JsonFacts.{place_is_plain}
use Rattle.sentences.proofs.json.place_line.Goals as goal

pub returns : goal.returns
returns c =
    let code = c.args.code in
    let told : view c.in_ok-value.value ≡ place_data (code_text code) c.args.file.now (sentence code (subject_of [])) c.args.place.now (remedy code (subject_of [])) =
    c.in_ok-value.ensures in
    let plain : has_float (view c.in_ok-value.value) ≡ false =
    ap has_float told ∙ place_is_plain (code_text code) c.args.file.now (sentence code (subject_of [])) c.args.place.now (remedy code (subject_of [])) in
    IfOk-weaker c.written_line.result _ _ (λ text written. written plain ∙ ap written_line told) c.written_line.ensures
