use Rattle.std.proofs.Common.{sym, ◌∙◌}
use Rattle.json.specs.Value.{value_view}
use Rattle.borrowed.proofs.LookFacts.{as_str-seen}
use Rattle.borrowed.proofs.looking.text_of.Goals as goal

pub returns : goal.returns
returns c = c.as_str.ensures ∙ sym (as_str-seen (value_view c.args.value.now))
