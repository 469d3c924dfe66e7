use Rattle.pointed.proofs.FlagLaws.{first-unknown, none-unknown}
use Rattle.pointed.proofs.laws.the_first_unknown_flag_is_pointed_at.Goals as goal

pub returns-clause-some : goal.returns-clause-some
returns-clause-some c = first-unknown

pub returns-clause-none : goal.returns-clause-none
returns-clause-none c = none-unknown
