use Rattle.rewrite.proofs.OrderFacts.{first_is}
use Rattle.rewrite.proofs.laws.the_least_failure_is_the_first.Goals as goal

pub returns : goal.returns
returns g c = first_is
