use Rattle.std.proofs.Common.{option_map, ap, sym, ◌∙◌}
use Rattle.json.specs.Value.{value_view}
use Rattle.borrowed.specs.Seen.{seen}
use Rattle.borrowed.proofs.LookFacts.{get-seen, seen_of_ref}
use Rattle.borrowed.proofs.looking.at.Goals as goal

pub returns : goal.returns
returns c = seen_of_ref c.get.result ∙ ap (option_map seen) c.get.ensures ∙ sym (get-seen c.args.key.now (value_view c.args.value.now))
