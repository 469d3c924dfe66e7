use Rattle.lowering.proofs.PositionLaws.{stage_is}
use Rattle.lowering.proofs.laws.a_stage_stands_on_those_before.Goals as goal

pub returns : goal.returns
returns c = stage_is
