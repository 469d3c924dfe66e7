use Rattle.wire.proofs.MapLemmas.{ascends_none}
use Rattle.wire.proofs.map.Map.new.Goals as goal

pub invariant_of-result : goal.invariant_of-result
invariant_of-result g c = ascends_none _ c.new.ensures.items
