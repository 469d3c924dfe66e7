use Rattle.definition.proofs.ShapeFacts.{array-list}
use Rattle.definition.proofs.reading.values_of.Goals as goal

pub returns-in-Array : goal.returns-in-Array
returns-in-Array c = array-list c.args.value c.in-Array.values c.in-Array.is
