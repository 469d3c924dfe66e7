use Rattle.expand.proofs.ValueLaws.{value-default_filled, value-default_empty_set, value-default_empty_filled, value-default_unset}
use Rattle.expand.proofs.laws.defaults_have_values.Goals as goal

pub returns-clause-filled : goal.returns-clause-filled
returns-clause-filled c = value-default_filled

pub returns-clause-empty_set : goal.returns-clause-empty_set
returns-clause-empty_set c = value-default_empty_set

pub returns-clause-empty_filled : goal.returns-clause-empty_filled
returns-clause-empty_filled c = value-default_empty_filled

pub returns-clause-unset : goal.returns-clause-unset
returns-clause-unset c = value-default_unset
