use Rattle.lowering.proofs.OutcomeFacts.{outcome_is}
use Rattle.lowering.proofs.laws.every_file_has_an_outcome.Goals as goal

pub returns : goal.returns
returns c = outcome_is
