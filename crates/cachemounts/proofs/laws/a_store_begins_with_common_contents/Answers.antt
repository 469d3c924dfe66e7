use Rattle.cachemounts.proofs.BeginFacts.{begins-with}
use Rattle.cachemounts.proofs.laws.a_store_begins_with_common_contents.Goals as goal

pub returns : goal.returns
returns c rows id slot = begins-with rows id slot
