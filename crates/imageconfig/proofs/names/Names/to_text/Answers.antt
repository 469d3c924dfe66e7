use Rattle.std.proofs.Common.{◌≡◌, false, ap, ◌∙◌}
use Rattle.serde_json.specs.View.{view}
use Rattle.serde_json.specs.Written.{compact_text, has_float}
use Rattle.imageconfig.proofs.FloatFacts.{names_are_plain}
use Rattle.imageconfig.proofs.names.Names.to_text.Goals as goal

pub returns : goal.returns
returns c =
    let plain : has_float (view c.in_ok-value.value) ≡ false = ap has_float c.in_ok-value.ensures ∙ names_are_plain c.args.self.now in
    c.in_ok-text.ensures.text plain ∙ ap compact_text c.in_ok-value.ensures
