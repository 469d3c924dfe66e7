use Rattle.lowering.proofs.PositionLaws.{stage_fails, fails_stage}
use Rattle.lowering.proofs.laws.failures_stand_somewhere.Goals as goal

pub returns : goal.returns
returns c = λ w rows line cause. (stage_fails w rows line cause, fails_stage w rows line cause)
