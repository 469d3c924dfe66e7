use Rattle.lowering.proofs.FailureLaws.{steps_none, stage_none}
use Rattle.lowering.proofs.laws.failing_leaves_no_tree.Goals as goal

pub returns-clause-steps : goal.returns-clause-steps
returns-clause-steps c = steps_none

pub returns-clause-stage : goal.returns-clause-stage
returns-clause-stage c = stage_none
