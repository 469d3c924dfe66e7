use Rattle.pointed.proofs.CodeLaws.{unknown-pointed}
use Rattle.pointed.proofs.laws.a_flag_that_is_not_taken_is_pointed_at.Goals as goal

pub returns : goal.returns
returns c = unknown-pointed
