use Rattle.lowering.proofs.OrderFacts.{stands_in_order, stands_least}
use Rattle.lowering.proofs.laws.lines_stay_in_order.Goals as goal

pub returns-clause-each : goal.returns-clause-each
returns-clause-each g c = stands_in_order

pub returns-clause-least : goal.returns-clause-least
returns-clause-least g c = stands_least
