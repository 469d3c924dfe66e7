use Rattle.rewrite.proofs.OrderFacts.{pruned_in_order, flat_in_order}
use Rattle.rewrite.proofs.laws.lines_are_kept_in_order.Goals as goal

pub returns-clause-pruned : goal.returns-clause-pruned
returns-clause-pruned g c = pruned_in_order

pub returns-clause-flat : goal.returns-clause-flat
returns-clause-flat g c = flat_in_order
