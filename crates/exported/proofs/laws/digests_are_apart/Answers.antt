use Rattle.exported.proofs.OrderLemmas.{digests_apart}
use Rattle.exported.proofs.laws.digests_are_apart.Goals as goal

pub returns : goal.returns
returns c = digests_apart
