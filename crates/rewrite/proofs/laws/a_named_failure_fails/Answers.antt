use Rattle.rewrite.proofs.LawFacts.{failure_is}
use Rattle.rewrite.proofs.laws.a_named_failure_fails.Goals as goal

pub returns : goal.returns
returns g c = failure_is
