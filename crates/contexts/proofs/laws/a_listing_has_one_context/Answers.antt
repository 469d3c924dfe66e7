use Rattle.contexts.proofs.OneContext.{one-context}
use Rattle.contexts.proofs.laws.a_listing_has_one_context.Goals as goal

pub returns : goal.returns
returns c rows lines tree other listing is was = one-context rows lines listing tree other is was
