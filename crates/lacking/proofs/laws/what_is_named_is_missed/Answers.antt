use Rattle.lacking.proofs.MissedLaws.{named-is}
use Rattle.lacking.proofs.laws.what_is_named_is_missed.Goals as goal

pub returns : goal.returns
returns c = named-is
