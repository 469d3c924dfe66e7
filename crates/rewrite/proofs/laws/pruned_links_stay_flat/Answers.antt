use Rattle.rewrite.proofs.LawFacts.{pruned_flat}
use Rattle.rewrite.proofs.laws.pruned_links_stay_flat.Goals as goal

pub returns : goal.returns
returns g c = pruned_flat
