use Rattle.pointed.proofs.CodeLaws.{bad-stage-pointed, twice-pointed}
use Rattle.pointed.proofs.laws.the_name_of_a_stage_is_pointed_at.Goals as goal

pub returns-clause-bad : goal.returns-clause-bad
returns-clause-bad c = bad-stage-pointed

pub returns-clause-twice : goal.returns-clause-twice
returns-clause-twice c = twice-pointed
