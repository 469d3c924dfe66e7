use Rattle.expand.proofs.ValueLaws.{value-alternative_filled, value-alternative_empty_set, value-alternative_empty_filled, value-alternative_unset}
use Rattle.expand.proofs.laws.alternatives_have_values.Goals as goal

pub returns-clause-filled : goal.returns-clause-filled
returns-clause-filled c = value-alternative_filled

pub returns-clause-empty_set : goal.returns-clause-empty_set
returns-clause-empty_set c = value-alternative_empty_set

pub returns-clause-empty_filled : goal.returns-clause-empty_filled
returns-clause-empty_filled c = value-alternative_empty_filled

pub returns-clause-unset : goal.returns-clause-unset
returns-clause-unset c = value-alternative_unset
