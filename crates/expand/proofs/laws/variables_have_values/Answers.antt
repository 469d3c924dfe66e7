use Rattle.expand.proofs.ValueLaws.{value-variable_set, value-variable_unset}
use Rattle.expand.proofs.laws.variables_have_values.Goals as goal

pub returns-clause-set : goal.returns-clause-set
returns-clause-set c = value-variable_set

pub returns-clause-unset : goal.returns-clause-unset
returns-clause-unset c = value-variable_unset
