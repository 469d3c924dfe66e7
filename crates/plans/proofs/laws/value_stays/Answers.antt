use Rattle.plans.proofs.ValueLaws.{value_of-grown}
use Rattle.plans.proofs.laws.value_stays.Goals as goal

pub returns : goal.returns
returns c = value_of-grown
