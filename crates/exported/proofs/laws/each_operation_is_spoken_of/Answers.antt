use Rattle.exported.proofs.OrderLemmas.{each_said}
use Rattle.exported.proofs.laws.each_operation_is_spoken_of.Goals as goal

pub returns : goal.returns
returns c = each_said
