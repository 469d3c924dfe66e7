use Rattle.cachemounts.proofs.HoldLemmas.{lowest_free-is}
use Rattle.cachemounts.proofs.laws.the_lowest_free_slot_is_found.Goals as goal

pub returns : goal.returns
returns c = lowest_free-is
