use Rattle.paths.proofs.PathLaws.{under_iff}
use Rattle.paths.proofs.laws.under_is_a_front.Goals as goal

pub returns : goal.returns
returns c = under_iff
