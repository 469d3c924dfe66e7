use Rattle.lowering.proofs.OrderFacts.{in_order_least, least_in_order}
use Rattle.lowering.proofs.laws.least_lines_tell_the_order.Goals as goal

pub returns-clause-least : goal.returns-clause-least
returns-clause-least g c = in_order_least

pub returns-clause-each : goal.returns-clause-each
returns-clause-each g c = least_in_order
