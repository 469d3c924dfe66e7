use Rattle.instructions.proofs.ReasonLaws.{reason_is, no_reason}
use Rattle.instructions.proofs.laws.the_least_reason_is_reported.Goals as goal

pub returns : goal.returns
returns c = record { least = reason_is; none = no_reason }
