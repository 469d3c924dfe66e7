use Rattle.pointed.proofs.CodeLaws.{numbers-pointed, port-pointed}
use Rattle.pointed.proofs.laws.what_is_no_number_is_pointed_at.Goals as goal

pub returns-clause-flag : goal.returns-clause-flag
returns-clause-flag c = numbers-pointed

pub returns-clause-port : goal.returns-clause-port
returns-clause-port c = port-pointed
