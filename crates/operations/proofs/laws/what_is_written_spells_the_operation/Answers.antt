use Rattle.operations.proofs.OperationLaws.{op-back}
use Rattle.operations.proofs.laws.what_is_written_spells_the_operation.Goals as goal

pub returns : goal.returns
returns c = λ op inputs proper formed are. op-back inputs op proper formed are
