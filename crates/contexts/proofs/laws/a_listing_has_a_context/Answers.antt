use Rattle.contexts.proofs.SomeContext.{some-context}
use Rattle.contexts.proofs.laws.a_listing_has_a_context.Goals as goal

pub returns : goal.returns
returns c rows lines listing = some-context rows lines listing
