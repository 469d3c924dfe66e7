use Rattle.pointed.proofs.CodeLaws.{name-pointed}
use Rattle.pointed.proofs.laws.the_name_of_the_instruction_is_pointed_at.Goals as goal

pub returns : goal.returns
returns c = name-pointed
