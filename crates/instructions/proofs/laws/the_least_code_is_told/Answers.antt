use Rattle.instructions.proofs.LeastLaws.{least_is, none_due}
use Rattle.instructions.proofs.laws.the_least_code_is_told.Goals as goal

pub returns : goal.returns
returns c = record { least = least_is; none = none_due }
