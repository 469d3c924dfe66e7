use Rattle.std.proofs.Common.{ap, ◌∙◌}
use Rattle.serde_json.specs.Written.{compact_text}
use Rattle.program.proofs.config.config_text.Goals as goal

pub returns : goal.returns
returns c = c.in_ok-text.ensures.text c.in_ok-value.ensures.whole ∙ ap compact_text c.in_ok-value.ensures.data
