use Rattle.std.proofs.Common.{◌≡◌, false, ap, ◌∙◌}
use Rattle.std.proofs.lemmas.Result.{IfOk-weaker}
use Rattle.counted.specs.Edges.{line_of}
use Rattle.serde_json.specs.Data.{Data}
use Rattle.serde_json.specs.View.{view}
use Rattle.serde_json.specs.Written.{compact_text, has_float}
use Rattle.imagelist.proofs.TextFacts.{image_is_plain}
use Rattle.imagelist.proofs.writing.image_line.Goals as goal

pub returns : goal.returns
returns c =
    let plain : has_float (view c.in_ok-value.value) ≡ false =
    ap has_float c.in_ok-value.ensures ∙ image_is_plain c.args.platform.now c.args.name.now c.args.used.now in
    IfOk-weaker c.written_line.result _ _ (λ text written. written plain ∙ ap (λ (d : Data). line_of (compact_text d)) c.in_ok-value.ensures) c.written_line.ensures
