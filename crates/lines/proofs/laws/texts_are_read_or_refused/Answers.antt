use Rattle.lines.proofs.TextLaws.{answered}
use Rattle.lines.proofs.laws.texts_are_read_or_refused.Goals as goal

pub returns : goal.returns
returns c = answered
