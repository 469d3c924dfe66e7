use Rattle.contexts.proofs.LeftFacts.{what_is_left}
use Rattle.contexts.proofs.laws.what_is_left_out.Goals as goal

pub returns : goal.returns
returns c rows lines tree left context lacks row has = what_is_left rows lines tree context left lacks row has
