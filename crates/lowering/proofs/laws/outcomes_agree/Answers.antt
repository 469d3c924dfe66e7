use Rattle.lowering.proofs.OutcomeFacts.{agree}
use Rattle.lowering.proofs.laws.outcomes_agree.Goals as goal

pub returns : goal.returns
returns c = agree
