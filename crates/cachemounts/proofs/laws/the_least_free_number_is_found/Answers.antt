use Rattle.cachemounts.proofs.HoldLemmas.{free_number-is}
use Rattle.cachemounts.proofs.laws.the_least_free_number_is_found.Goals as goal

pub returns : goal.returns
returns c = free_number-is
