use Rattle.bundle.proofs.ExistFacts.{answered}
use Rattle.bundle.proofs.laws.bytes_are_read_or_refused.Goals as goal

pub returns : goal.returns
returns g c config bytes = answered config bytes c.a_listing_has_a_context.ensures
