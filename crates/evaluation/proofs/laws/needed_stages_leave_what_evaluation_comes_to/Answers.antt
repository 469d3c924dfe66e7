use Rattle.evaluation.proofs.EndFacts.{stage_ends}
use Rattle.evaluation.proofs.laws.needed_stages_leave_what_evaluation_comes_to.Goals as goal

pub returns : goal.returns
returns c = stage_ends
