use Rattle.rewrite.proofs.LawFacts.{flat_failure_is}
use Rattle.rewrite.proofs.laws.a_flattened_failure_fails.Goals as goal

pub returns : goal.returns
returns g c = flat_failure_is
