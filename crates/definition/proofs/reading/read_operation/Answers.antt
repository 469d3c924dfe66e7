use Rattle.definition.proofs.ShapeFacts.{spells-after, spells-formed}
use Rattle.definition.proofs.reading.read_operation.Goals as goal

pub with-requires-clause-after : goal.with-requires-clause-after
with-requires-clause-after c = spells-after _ _ _ c.in-Ok-next.ensures.next.0

pub with-requires-clause-formed : goal.with-requires-clause-formed
with-requires-clause-formed c = spells-formed _ _ _ c.in-Ok-next.ensures.next.0
