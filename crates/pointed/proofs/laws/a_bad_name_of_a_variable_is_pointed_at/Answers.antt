use Rattle.pointed.proofs.CodeLaws.{bad-name-pointed}
use Rattle.pointed.proofs.laws.a_bad_name_of_a_variable_is_pointed_at.Goals as goal

pub returns : goal.returns
returns c = bad-name-pointed
