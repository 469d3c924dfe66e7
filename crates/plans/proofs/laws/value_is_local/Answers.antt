use Rattle.plans.proofs.ValueLaws.{value_of-is}
use Rattle.plans.proofs.laws.value_is_local.Goals as goal

pub returns : goal.returns
returns c = value_of-is
