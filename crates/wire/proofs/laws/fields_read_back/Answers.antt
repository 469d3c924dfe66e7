use Rattle.wire.proofs.FieldLemmas.{field-back}
use Rattle.wire.proofs.laws.fields_read_back.Goals as goal

pub returns : goal.returns
returns c = field-back
