use Rattle.lowering.proofs.SerialFacts.{serial_fails, serial_least}
use Rattle.lowering.proofs.laws.the_first_failure_is_the_least.Goals as goal

pub returns-clause-fails : goal.returns-clause-fails
returns-clause-fails c = serial_fails

pub returns-clause-least : goal.returns-clause-least
returns-clause-least c = serial_least
