use Rattle.definition.proofs.OneReadingLaws.{one-reading}
use Rattle.definition.proofs.laws.a_text_has_one_reading.Goals as goal

pub returns : goal.returns
returns c = one-reading
