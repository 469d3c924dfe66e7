use Rattle.expand.proofs.ValueLaws.{required-filled, required-empty_set, required-empty_filled, required-unset}
use Rattle.expand.proofs.laws.required_variables_refuse.Goals as goal

pub returns-clause-filled : goal.returns-clause-filled
returns-clause-filled c = required-filled

pub returns-clause-empty_set : goal.returns-clause-empty_set
returns-clause-empty_set c = required-empty_set

pub returns-clause-empty_filled : goal.returns-clause-empty_filled
returns-clause-empty_filled c = required-empty_filled

pub returns-clause-unset : goal.returns-clause-unset
returns-clause-unset c = required-unset
