use Rattle.scopes.specs.Scope.{value_in}
use Rattle.evaluation.proofs.OrderFacts.{evaluated_in_order, evaluated_needs}
use Rattle.evaluation.proofs.laws.what_is_evaluated_is_in_order.Goals as goal

pub returns-clause-order : goal.returns-clause-order
returns-clause-order c = λ args images needed table walk whole h. evaluated_in_order args (value_in table.outer) images needed table walk whole h

pub returns-clause-needs : goal.returns-clause-needs
returns-clause-needs c = λ args images needed table walk whole are h. evaluated_needs args (value_in table.outer) images needed table walk whole are h
