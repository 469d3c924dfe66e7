use Rattle.exported.proofs.OrderLemmas.{inputs_before}
use Rattle.exported.proofs.laws.inputs_stand_before.Goals as goal

pub returns : goal.returns
returns c = inputs_before
