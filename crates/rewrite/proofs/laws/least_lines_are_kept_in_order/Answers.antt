use Rattle.rewrite.proofs.OrderFacts.{pruned_least, flat_least}
use Rattle.rewrite.proofs.laws.least_lines_are_kept_in_order.Goals as goal

pub returns-clause-pruned : goal.returns-clause-pruned
returns-clause-pruned g c = pruned_least

pub returns-clause-flat : goal.returns-clause-flat
returns-clause-flat g c = flat_least
