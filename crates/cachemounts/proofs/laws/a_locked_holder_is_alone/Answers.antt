use Rattle.cachemounts.proofs.StoreLemmas.{locked-alone}
use Rattle.cachemounts.proofs.laws.a_locked_holder_is_alone.Goals as goal

pub returns : goal.returns
returns c = locked-alone
